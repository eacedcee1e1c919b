-- What is read of a record's text.
use Rattle.std.proofs.Common.{◌≡◌, ℕ, ◌^◌, ◌≤◌, ◌<◌, ◌&&◌, ◌==◌, true, leb, List, [], ◌∷◌, ◌++◌, length}
use Rattle.std.proofs.Common.{Option, Some, None}
use Rattle.std.proofs.Common.{refl, sym, ap, subst, ◌∙◌, arith, cond}
use Rattle.std.specs.Prelude.{IfSome}
use Rattle.std.specs.List.{list_all}
use Rattle.std.specs.Fmt.{decimal}
use Rattle.std.proofs.lemmas.Bool.{leb-true, le-leb, eqb-true, eq-eqb}
use Rattle.text_fields.specs.Cuts.{joined, split, Lacks, AllLack}
use Rattle.text_fields.specs.Parsing.{Finds, ◌>>=◌, alone, first_word}
use Rattle.text_fields.specs.Number.{number_of}
use Rattle.text_fields.proofs.CutLaws.{split-joined, joined-split, Lacks-joined}
use Rattle.text_fields.proofs.Steps.{bind_some, some_is, both, chosen}
use Rattle.text_fields.proofs.WordLaws.{word_takes, word_again}
use Rattle.text_fields.proofs.NumberLaws.{number_takes, number_again, decimal_lacks}
use Rattle.clock_watch.specs.declared.record.ClockRecord.{ClockRecord}
use Rattle.clock_watch.specs.Boots.{is_visible, IsBootId, boot_of}
use Rattle.clock_watch.specs.Recording.{IsRecord, record_text}
use Rattle.clock_watch.specs.Parsing.{reading_of, record_at, record_in}

-- ---- the name of a boot

boot_takes : (word boot : List ℕ) → boot_of word ≡ Some boot → (word ≡ boot) × IsBootId word
unfolding boot_of
boot_takes word boot e =
    let c = chosen (length word == 36 && list_all is_visible word) (Some word) boot e in
    let t = both (length word == 36) (list_all is_visible word) c.0 in
    (some_is word boot c.1, record { whole = eqb-true (length word) 36 t.0; visible = t.1 })

boot_again : (word : List ℕ) → IsBootId word → boot_of word ≡ Some word
unfolding boot_of
boot_again word h = rw (eq-eqb (length word) 36 h.whole, h.visible) refl

pub boot_found : (octets boot : List ℕ) → boot_of octets ≡ Some boot → (boot ≡ octets) × IsBootId octets
boot_found octets boot e = let t = boot_takes octets boot e in (sym t.0, t.1)

pub boot_none : (octets : List ℕ) → boot_of octets ≡ None → IsBootId octets → ⊥
boot_none octets e h = differ octets (sym e ∙ boot_again octets h)
  where
    differ : (octets : List ℕ) → None ≡ Some octets → ⊥
    differ octets e = cc

visible_lack : (stop : ℕ) (word : List ℕ) → stop < 33 → list_all is_visible word ≡ true → Lacks stop word
visible_lack stop [] low e = tt
visible_lack stop (b ∷ word) low e =
    let t = both (is_visible b) (list_all is_visible word) e in
    let v = both (leb 33 b) (leb b 126) t.0 in
    ((λ same. absurd (omega (arith, leb-true 33 b v.0))), visible_lack stop word low t.1)

-- ---- a reading

reading_takes : (word : List ℕ) (n : ℕ) → reading_of word ≡ Some n → (word ≡ decimal n) × (n ≤ 2 ^ 48)
unfolding reading_of
reading_takes word n e =
    let s = bind_some (number_of word) (λ m. cond (leb m (2 ^ 48)) (Some m) None) n e in
    let c = chosen (leb s.0 (2 ^ 48)) (Some s.0) n s.2 in
    let same = some_is s.0 n c.1 in
    let t = number_takes word s.0 s.1 in
    (t.0 ∙ ap decimal same, omega (arith, leb-true s.0 (2 ^ 48) c.0))

reading_again : (n : ℕ) → n ≤ 2 ^ 48 → reading_of (decimal n) ≡ Some n
unfolding reading_of
reading_again n le = rw (number_again n (omega arith), le-leb n (2 ^ 48) le) refl

-- ---- one word, and what is read behind it

word_then : {A B : Type 0} (parse : List ℕ → Option A) (words : List (List ℕ)) (f : A × List (List ℕ) → Option B)
    (y : B) → (first_word parse words >>= f) ≡ Some y
    → (x : A × List (List ℕ)) × (word : List ℕ) × (words ≡ word ∷ x.1) × (parse word ≡ Some x.0) × (f x ≡ Some y)
word_then parse words f y e =
    let s = bind_some (first_word parse words) f y e in
    let w = word_takes parse words s.0.0 s.0.1 s.1 in
    (s.0, w.0, w.1, w.2, s.2)

next : {word spelled : List ℕ} {words rest tail : List (List ℕ)} → words ≡ word ∷ rest → word ≡ spelled → rest ≡ tail
    → words ≡ spelled ∷ tail
next {word = word} {tail = tail} here is behind =
    here ∙ (ap (λ (ws : List (List ℕ)). word ∷ ws) behind ∙ ap (λ (w : List ℕ). w ∷ tail) is)

alone_takes : {A : Type 0} (x : A) (words : List (List ℕ)) (y : A) → alone x words ≡ Some y → (words ≡ []) × (x ≡ y)
alone_takes x [] y e = (refl, some_is x y e)
alone_takes x (word ∷ words) y e = absurd cc

-- ---- a record

abbrev words_of : ClockRecord → List (List ℕ)
words_of r = r.boot ∷ decimal r.wall ∷ decimal r.uptime ∷ []

abbrev Says : List (List ℕ) → ClockRecord → Type 0
Says words r = (words ≡ words_of r) × IsRecord r

at_takes : (words : List (List ℕ)) (r : ClockRecord) → record_at words ≡ Some r → Says words r
unfolding record_at
at_takes words r e =
    let boot = word_then boot_of words _ r e in
    let wall = word_then reading_of boot.0.1 _ r boot.4 in
    let up = word_then number_of wall.0.1 _ r wall.4 in
    let end = alone_takes (record { boot = boot.0.0; wall = wall.0.0; uptime = up.0.0 }) up.0.1 r up.4 in
    let b = boot_takes boot.1 boot.0.0 boot.3 in
    let w = reading_takes wall.1 wall.0.0 wall.3 in
    let u = number_takes up.1 up.0.0 up.3 in
    subst (Says words) end.1 (
      next boot.2 b.0 (next wall.2 w.0 (next up.2 u.0 end.0)),
      record { boot = subst IsBootId b.0 b.1; wall = w.1; uptime = u.1 },
    )

at_again : (r : ClockRecord) → IsRecord r → record_at (words_of r) ≡ Some r
unfolding record_at first_word
at_again r h = rw (
  boot_again r.boot h.boot,
  reading_again r.wall h.wall,
  number_again r.uptime h.uptime,
) refl

-- ---- its line, and the line feed

words_lack : (stop : ℕ) (r : ClockRecord) → stop < 33 → IsRecord r → AllLack stop (words_of r)
words_lack stop r low h = (
  visible_lack stop r.boot low h.boot.visible,
  (
    decimal_lacks stop r.wall (omega arith) (omega (arith, h.wall)),
    (decimal_lacks stop r.uptime (omega arith) h.uptime, tt),
  ),
)

lines_take : (lines : List (List ℕ)) (r : ClockRecord) → record_in lines ≡ Some r
    → (line : List ℕ) × (lines ≡ line ∷ [] ∷ []) × (record_at (split 32 line) ≡ Some r)
unfolding record_in
lines_take [] r e = absurd cc
lines_take (line ∷ []) r e = absurd cc
lines_take (line ∷ [] ∷ []) r e = (line, refl, e)
lines_take (line ∷ [] ∷ more ∷ lines) r e = absurd cc
lines_take (line ∷ (b ∷ end) ∷ lines) r e = absurd cc

text_takes : (text : List ℕ) (r : ClockRecord) → record_in (split 10 text) ≡ Some r
    → IsRecord r × (text ≡ record_text r)
text_takes text r e =
    let l = lines_take (split 10 text) r e in
    let s = at_takes (split 32 l.0) r l.2 in
    let line : l.0 ≡ joined 32 (words_of r) = sym (joined-split 32 l.0) ∙ ap (joined 32) s.0 in
    (s.1, sym (joined-split 10 text) ∙ (ap (joined 10) l.1 ∙ ap (λ (line : List ℕ). line ++ 10 ∷ []) line))

text_again : (r : ClockRecord) → IsRecord r → record_in (split 10 (record_text r)) ≡ Some r
unfolding record_in
text_again r h =
    let lacks = Lacks-joined 10 32 (words_of r) (words_lack 10 r (omega arith) h) (λ e. absurd (omega arith)) in
    rw (
      split-joined 10 (joined 32 (words_of r)) ([] ∷ []) (lacks, (tt, tt)),
      split-joined 32 r.boot (decimal r.wall ∷ decimal r.uptime ∷ []) (words_lack 32 r (omega arith) h),
    ) (at_again r h)

-- what a call found of a text whose lines these are
read_found : (o : Option ClockRecord) (text : List ℕ) → Finds (λ r. r) o (record_in (split 10 text))
    → IfSome o (λ r. IsRecord r × (text ≡ record_text r))
read_found None text f = tt
read_found (Some r) text f = text_takes text r f

none_some : (r : ClockRecord) → None ≡ Some r → ⊥
none_some r e = cc

found_as : (o p : Option ClockRecord) (r : ClockRecord) → Finds (λ r. r) o p → p ≡ Some r → o ≡ Some r
found_as None p r f e = absurd (none_some r (sym f ∙ e))
found_as (Some q) p r f e = sym f ∙ e

pub lines_found : (o : Option ClockRecord) (text : List ℕ) (lines : List (List ℕ)) → lines ≡ split 10 text
    → Finds (λ r. r) o (record_in lines) → IfSome o (λ r. IsRecord r × (text ≡ record_text r))
lines_found o text lines is f = read_found o text (subst (λ (ls : List (List ℕ)). Finds (λ r. r) o (record_in ls)) is f)

pub lines_again : (o : Option ClockRecord) (text : List ℕ) (lines : List (List ℕ)) (r : ClockRecord)
    → lines ≡ split 10 text → Finds (λ r. r) o (record_in lines) → IsRecord r → text ≡ record_text r → o ≡ Some r
lines_again o text lines r is f h same =
    found_as o (record_in lines) r f (ap record_in is ∙ (ap (λ t. record_in (split 10 t)) same ∙ text_again r h))
