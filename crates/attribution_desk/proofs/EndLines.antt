-- The first text of an input that goes on, line by line.
use Rattle.std.proofs.Common.{◌≡◌, ◌≢◌, ◌⊎◌, ℕ, zero, suc, ◌+◌, ◌≤◌, ◌<◌, min, Some, None, inl, inr, Bool, true, false}
use Rattle.std.proofs.Common.{cond, List, [], ◌∷◌, ◌++◌, length, get_or, take, drop, refl, sym, ap, subst, ◌∙◌}
use Rattle.std.proofs.Common.{append_assoc, append-nil, length-append, arith}
use Rattle.std.specs.Prelude.{codes}
use Rattle.std.specs.Str.{bytes_eq}
use Rattle.std.proofs.lemmas.Bool.{eq-eqb, eqb-true, ne_eqb, cases_lt}
use Rattle.std.proofs.lemmas.List.{take_more, take-append-drop}
use Rattle.std.proofs.Math.Seq.{take-add, take-length}
use Rattle.memchr.specs.Find.{IsFirstByte, is_byte}
use Rattle.text_fields.specs.Cuts.{split, Lacks}
use Rattle.text_fields.proofs.Cutting.{split_some}
use Rattle.text_fields.proofs.CutLaws.{split-cons, split-last, Lacks-append}
use Rattle.attribution_desk.specs.Input.{begins_with_end, first_length, text_length}
use Rattle.attribution_desk.specs.Intake.{IsWholeText, TextGoesOn}
use Rattle.attribution_desk.proofs.Lines.{line_ends, line_goes}

-- a text has a first cut
some_cut : (text : List ℕ) → (first : List ℕ) × (cuts : List (List ℕ)) × (split 10 text ≡ first ∷ cuts)
some_cut text = by (split 10 text) (split_some 10 text)
  where
    by : (cuts : List (List ℕ)) → cuts ≢ [] → (first : List ℕ) × (more : List (List ℕ)) × (cuts ≡ first ∷ more)
    by [] some = absurd (some refl)
    by (first ∷ more) some = (first, more, refl)

-- ---- octets that lack a line feed

pub Lacks-take : (n : ℕ) (line : List ℕ) → Lacks 10 line → Lacks 10 (take n line)
Lacks-take zero line h = tt
Lacks-take (suc n) [] h = tt
Lacks-take (suc n) (b ∷ line) h = (h.0, Lacks-take n line h.1)

pub lacks_below : (octets : List ℕ) (n : ℕ) → n ≤ length octets → ((k : ℕ) → k < n → get_or octets k 0 ≢ 10)
    → Lacks 10 (take n octets)
lacks_below octets zero le h = tt
lacks_below [] (suc n) le h = tt
lacks_below (b ∷ octets) (suc n) le h =
    (h 0 (omega arith), lacks_below octets n (omega arith) (λ k lt. h (suc k) (omega arith)))

-- what a search for a line feed makes known
pub first_feed : (octets : List ℕ) (at : ℕ) → IsFirstByte (is_byte 10) octets (Some at)
    → (at < length octets) × ((k : ℕ) → k < at → get_or octets k 0 ≢ 10) × (get_or octets at 0 ≡ 10)
first_feed octets at h = (h.0.high, λ k lt e. h.0.before k (omega arith) lt (eq-eqb _ _ e), eqb-true _ _ h.1)

pub no_feed : (octets : List ℕ) → IsFirstByte (is_byte 10) octets None → (k : ℕ) → k < length octets
    → get_or octets k 0 ≢ 10
no_feed octets h k lt e = h k (omega arith) lt (eq-eqb _ _ e)

-- a front without line feeds and a text's first line are one line
split_behind : (front text first : List ℕ) (lines : List (List ℕ)) → Lacks 10 front → split 10 text ≡ first ∷ lines
    → split 10 (front ++ text) ≡ (front ++ first) ∷ lines
unfolding split
split_behind [] text first lines h e = e
split_behind (b ∷ front) text first lines h e = rw (ne_eqb b 10 h.0, split_behind front text first lines h.1 e) refl

-- ---- three octets of a line say whether it begins with `end`

same_start : (line more : List ℕ) → take 3 (line ++ more) ≡ take 3 (take 3 line ++ more)
same_start [] more = refl
same_start (a ∷ []) more = refl
same_start (a ∷ b ∷ []) more = refl
same_start (a ∷ b ∷ c ∷ line) more = refl

front_kept : (n m : ℕ) (line octets : List ℕ) → n ≤ m → take n (line ++ take m octets) ≡ take n (line ++ octets)
front_kept zero m line octets le = refl
front_kept (suc n) zero line octets le = absurd (omega arith)
front_kept (suc n) (suc m) [] [] le = refl
front_kept (suc n) (suc m) [] (b ∷ octets) le = ap (λ t. b ∷ t) (front_kept n m [] octets (omega arith))
front_kept (suc n) (suc m) (b ∷ line) octets le = ap (λ t. b ∷ t) (front_kept n (suc m) line octets (omega arith))

pub start_kept : (line octets : List ℕ) (n : ℕ) → n ≡ min (length octets) 3
    → take 3 (line ++ take n octets) ≡ take 3 (line ++ octets)
start_kept line octets n is = by (cases_lt n 3)
  where
    by : (n < 3) ⊎ (3 ≤ n) → take 3 (line ++ take n octets) ≡ take 3 (line ++ octets)
    by (inl lt) = let all : n ≡ length octets = omega arith in
        ap (λ t. take 3 (line ++ t)) (ap (λ k. take k octets) all ∙ take-length octets)
    by (inr le) = front_kept 3 n line octets le

alike_by : (b d : Bool) (n m later : ℕ) → b ≡ d → cond b (n + 1) (n + 1 + later) + m
    ≡ n + cond d (m + 1) (m + 1 + later)
alike_by true true n m later e = omega arith
alike_by true false n m later e = absurd cc
alike_by false true n m later e = absurd cc
alike_by false false n m later e = omega arith

alike_lines : (line start : List ℕ) (lines : List (List ℕ)) → take 3 line ≡ take 3 start
    → first_length (line ∷ lines) + length start ≡ length line + first_length (start ∷ lines)
unfolding first_length
alike_lines line start [] e = refl
alike_lines line start (next ∷ lines) e =
    alike_by (begins_with_end line) (begins_with_end start) (length line) (length start) (first_length (next ∷ lines))
    (ap (λ t. bytes_eq t (codes "end")) e)

alike_start : (line more : List ℕ) → Lacks 10 line → text_length (line ++ more) + length (take 3 line)
    ≡ length line + text_length (take 3 line ++ more)
alike_start line more h =
    let w = some_cut more in
    let whole : text_length (line ++ more) ≡ first_length ((line ++ w.0) ∷ w.1) =
    ap first_length (split_behind line more w.0 w.1 h w.2) in
    let short : text_length (take 3 line ++ more) ≡ first_length ((take 3 line ++ w.0) ∷ w.1) =
    ap first_length (split_behind (take 3 line) more w.0 w.1 (Lacks-take 3 line h) w.2) in
    let same = alike_lines (line ++ w.0) (take 3 line ++ w.0) w.1 (same_start line w.0) in
    omega (arith, whole, short, same, length-append line w.0, length-append (take 3 line) w.0)

-- ---- a text that goes on

module _ (text line chunk : List ℕ) (h : TextGoesOn text line) where
  goes_with : (start : List ℕ) → TextGoesOn (line ++ chunk) start → TextGoesOn (text ++ chunk) start
  goes_with start k = record {
    unbroken = k.unbroken;
    alike = λ more.
        (let outer = h.alike (chunk ++ more) in
        let inner = k.alike more in
        omega (
          arith,
          outer,
          inner,
          ap text_length (append_assoc text chunk more),
          ap text_length (append_assoc line chunk more),
          length-append text chunk,
          length-append line chunk,
        ));
  }

  whole_with : IsWholeText (line ++ chunk) → IsWholeText (text ++ chunk)
  whole_with whole more =
      let outer = h.alike (chunk ++ more) in
      let inner = whole more in
      omega (
        arith,
        outer,
        inner,
        ap text_length (append_assoc text chunk more),
        ap text_length (append_assoc line chunk more),
        length-append text chunk,
        length-append line chunk,
      )

  -- within its line
  pub goes_on : (start : List ℕ) → Lacks 10 chunk → start ≡ take 3 (line ++ chunk) → TextGoesOn (text ++ chunk) start
  goes_on start lacks is =
      let whole = Lacks-append 10 line chunk h.unbroken lacks in
      goes_with start (subst (λ s. TextGoesOn (line ++ chunk) s) (sym is)
      (record {
        unbroken = Lacks-take 3 (line ++ chunk) whole;
        alike =
            λ more. alike_start (line ++ chunk) more whole;
      }))

module _ (text line : List ℕ) (h : TextGoesOn text line) where
  -- behind its line feed
  pub next_line : begins_with_end line ≡ false → TextGoesOn (text ++ 10 ∷ []) []
  next_line goes = goes_with text line (10 ∷ []) h [] (record {
    unbroken = tt;
    alike = λ more.
        (let cut = ap first_length (split-cons 10 line more h.unbroken) in
        let length = line_goes line (split 10 more) (split_some 10 more) goes in
        omega (arith, cut, length, ap text_length (append_assoc line (10 ∷ []) more), length-append line (10 ∷ [])));
  })

  pub ends : begins_with_end line ≡ true → IsWholeText (text ++ 10 ∷ [])
  ends is = whole_with text line (10 ∷ []) h (λ more.
      let cut = ap first_length (split-cons 10 line more h.unbroken) in
      let length = line_ends line (split 10 more) (split_some 10 more) is in
      omega (arith, cut, length, ap text_length (append_assoc line (10 ∷ []) more), length-append line (10 ∷ [])))

  -- and all that has come belongs to it
  pub all_of : text_length text ≡ length text
  unfolding first_length
  all_of =
      let same = h.alike [] in
      let one = ap first_length (split-last 10 line h.unbroken) in
      omega (arith, same, one, ap text_length (append-nil text), ap text_length (append-nil line))

-- ---- the loop over the lines of a chunk

pub record IsWithin (start chunk : List ℕ) (from : ℕ) (line : List ℕ) : Type 0 where
  pub within : from ≤ length chunk
  pub goes : (text : List ℕ) → TextGoesOn text start → TextGoesOn (text ++ take from chunk) line

pub begins : (start chunk : List ℕ) → IsWithin start chunk 0 start
begins start chunk = record {
  within = omega arith;
  goes =
      λ text h. subst (λ t. TextGoesOn t start) (sym (append-nil text)) h;
}

module _ (start chunk : List ℕ) (from : ℕ) (line : List ℕ) (h : IsWithin start chunk from line) (at : ℕ)
    (lt : at < length (drop from chunk)) (before : (k : ℕ) → k < at
    → get_or (drop from chunk) k 0 ≢ 10) (here : get_or (drop from chunk) at 0 ≡ 10) (kept : List ℕ)
    (is : kept ≡ take 3 (line ++ take at (drop from chunk))) where
  one_line : take (from + (at + 1)) chunk ≡ take from chunk ++ (take at (drop from chunk) ++ 10 ∷ [])
  one_line = take-add from (at + 1) chunk
      ∙ ap (λ t. take from chunk ++ t) (take_more (drop from chunk) at 0 lt
      ∙ ap (λ b. take at (drop from chunk) ++ b ∷ []) here)

  behind_line : (text : List ℕ) → (text ++ (take from chunk ++ take at (drop from chunk))) ++ 10 ∷ [] ≡ text
      ++ take (from + (at + 1)) chunk
  behind_line text =
      append_assoc text (take from chunk ++ take at (drop from chunk)) (10 ∷ [])
      ∙ ap (λ t. text ++ t) (append_assoc (take from chunk) (take at (drop from chunk)) (10 ∷ []) ∙ sym one_line)

  line_goes_on : (text : List ℕ) → TextGoesOn text start
      → TextGoesOn (text ++ (take from chunk ++ take at (drop from chunk))) kept
  line_goes_on text g =
      subst (λ t. TextGoesOn t kept) (append_assoc text (take from chunk) (take at (drop from chunk)))
      (goes_on (text ++ take from chunk) line (take at (drop from chunk)) (h.goes text g) kept
      (lacks_below (drop from chunk) at (omega arith) before) is)

  pub another_line : begins_with_end kept ≡ false → from + (at + 1) ≤ length chunk
      → IsWithin start chunk (from + (at + 1)) []
  another_line goes le = record {
    within = le;
    goes =
        λ text g. subst (λ t. TextGoesOn t []) (behind_line text) (next_line _ kept (line_goes_on text g) goes);
  }

  pub end_found : begins_with_end kept ≡ true → (text : List ℕ) → TextGoesOn text start
      → IsWholeText (text ++ take (from + (at + 1)) chunk)
  end_found is text g = subst (λ t. IsWholeText t) (behind_line text) (ends _ kept (line_goes_on text g) is)

-- behind the last line feed
pub none_found : (start chunk : List ℕ) (from : ℕ) (line : List ℕ) → IsWithin start chunk from line
    → ((k : ℕ) → k < length (drop from chunk) → get_or (drop from chunk) k 0 ≢ 10)
    → (kept : List ℕ) → kept ≡ take 3 (line ++ drop from chunk) → (text : List ℕ) → TextGoesOn text start
    → TextGoesOn (text ++ chunk) kept
none_found start chunk from line h before kept is text g =
    let lacks = subst (Lacks 10) (take-length (drop from chunk))
    (lacks_below (drop from chunk) (length (drop from chunk)) (omega arith) before) in
    subst (λ t. TextGoesOn t kept) (append_assoc text (take from chunk) (drop from chunk)
    ∙ ap (λ t. text ++ t) (take-append-drop from chunk))
    (goes_on (text ++ take from chunk) line (drop from chunk) (h.goes text g) kept lacks is)
