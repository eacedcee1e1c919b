-- Words that are read as groups are numerals, and numerals are read again.
use Rattle.std.proofs.Common.{◌≡◌, ◌≢◌, ℕ, zero, suc, ◌+◌, ◌<◌, ◌≤◌, cond, ltb, leb, List, [], ◌∷◌, ◌++◌, length}
use Rattle.std.proofs.Common.{replicate, Some, None, ◌*◌, ◌&&◌, refl, sym, ap, ◌∙◌, append_assoc, append-nil}
use Rattle.std.proofs.Common.{length-append, arith}
use Rattle.std.proofs.lemmas.Bool.{and_parts, leb-true, le-leb, ltb-true, lt-ltb}
use Rattle.text_fields.specs.Parsing.{◌>>=◌}
use Rattle.text_fields.specs.Cuts.{joined, split, Lacks, AllLack}
use Rattle.text_fields.proofs.Steps.{bind_some, some_is, chosen}
use Rattle.text_fields.proofs.CutLaws.{split-joined, joined-split, joined-behind}
use Rattle.prefix_range.specs.Spelling.{digit_value, with_digit, digits_on, IsNumeral, AreGroups}
use Rattle.prefix_range.specs.Parsing.{numeral_in, words_of, with_one, groups_on, padded}

-- ---- numerals

pub numeral_takes : (base most : ℕ) (word : List ℕ) (n : ℕ) → numeral_in base most word ≡ Some n
    → IsNumeral base most word n
unfolding numeral_in
numeral_takes base most word n e =
    let c = chosen (ltb 0 (length word) && leb (length word) most) (digits_on base 0 word) n e in
    let p = and_parts (ltb 0 (length word)) (leb (length word) most) c.0 in
    record { some = ltb-true 0 (length word) p.0; short = leb-true (length word) most p.1; value = c.1 }

pub numeral_again : (base most : ℕ) (word : List ℕ) (n : ℕ) → IsNumeral base most word n
    → numeral_in base most word ≡ Some n
unfolding numeral_in
numeral_again base most word n h =
    let some = lt-ltb 0 (length word) h.some in
    let short = le-leb (length word) most h.short in
    rw (some, short) h.value

-- an octet that is no digit stands in no numeral
digits_lack : (base stop : ℕ) (word : List ℕ) (n m : ℕ) → digit_value stop ≡ None → digits_on base n word ≡ Some m
    → Lacks stop word
unfolding digits_on with_digit
digits_lack base stop [] n m none e = tt
digits_lack base stop (b ∷ word) n m none e =
    let first = bind_some (with_digit base n b) (λ k. digits_on base k word) m e in
    let digit = bind_some (digit_value b) (λ d. cond (ltb d base && ltb (base * n + d) 65536)
    (Some (base * n + d)) None) first.0 first.1 in
    let other : b ≢ stop = λ same. let both : digit_value b ≡ None = ap digit_value same ∙ none in absurd cc in
    (other, digits_lack base stop word first.0 m none first.2)

pub numeral_lacks : (base most stop : ℕ) (word : List ℕ) (n : ℕ) → digit_value stop ≡ None → IsNumeral base most word n
    → Lacks stop word
numeral_lacks base most stop word n none h = digits_lack base stop word 0 n none h.value

pub groups_lack : (stop : ℕ) (words : List (List ℕ)) (groups : List ℕ) → digit_value stop ≡ None
    → AreGroups words groups → AllLack stop words
groups_lack stop [] [] none h = tt
groups_lack stop [] (g ∷ groups) none h = absurd h
groups_lack stop (word ∷ words) [] none h = absurd h
groups_lack stop (word ∷ words) (g ∷ groups) none h =
    (numeral_lacks 16 4 stop word g none h.0, groups_lack stop words groups none h.1)

-- ---- words

words_split : (text : List ℕ) → 0 < length text → words_of text ≡ split 58 text
words_split [] some = absurd (omega arith)
words_split (b ∷ text) some = refl

pub words_again : (words : List (List ℕ)) (groups : List ℕ) → AreGroups words groups
    → words_of (joined 58 words) ≡ words
words_again [] [] h = refl
words_again [] (g ∷ groups) h = absurd h
words_again (word ∷ words) [] h = absurd h
words_again (word ∷ words) (g ∷ groups) h =
    let long : length (joined 58 (word ∷ words)) ≡ length word + length _ =
    ap length (joined-behind 58 word words) ∙ length-append word _ in
    let some : 0 < length (joined 58 (word ∷ words)) = omega (arith, long, h.0.some) in
    words_split (joined 58 (word ∷ words)) some
    ∙ split-joined 58 word words (groups_lack 58 (word ∷ words) (g ∷ groups) refl h)

pub words_take : (text : List ℕ) → text ≡ joined 58 (words_of text)
words_take [] = refl
words_take (b ∷ text) = sym (joined-split 58 (b ∷ text))

-- ---- groups

one_takes : (groups : List ℕ) (g : ℕ) (all : List ℕ) → with_one groups g ≡ Some all → all ≡ groups ++ g ∷ []
unfolding with_one
one_takes groups g all e = sym (some_is _ _ (chosen (ltb (length groups) 8) (Some (groups ++ g ∷ [])) all e).1)

one_again : (groups : List ℕ) (g : ℕ) → length groups < 8 → with_one groups g ≡ Some (groups ++ g ∷ [])
unfolding with_one
one_again groups g lt = rw (lt-ltb (length groups) 8 lt) refl

pub on_takes : (groups : List ℕ) (words : List (List ℕ)) (all : List ℕ) → groups_on groups words ≡ Some all
    → (more : List ℕ) × (all ≡ groups ++ more) × AreGroups words more
unfolding groups_on
on_takes groups [] all e = ([], sym (some_is _ _ e) ∙ sym (append-nil groups), tt)
on_takes groups (word ∷ words) all e =
    let g = bind_some (numeral_in 16 4 word) (λ g. with_one groups g >>= λ m. groups_on m words) all e in
    let m = bind_some (with_one groups g.0) (λ m. groups_on m words) all g.2 in
    let rest = on_takes m.0 words all m.2 in
    let next : m.0 ≡ groups ++ g.0 ∷ [] = one_takes groups g.0 m.0 m.1 in
    let whole : all ≡ groups ++ g.0 ∷ rest.0 =
    rest.1 ∙ (ap (λ (x : List ℕ). x ++ rest.0) next ∙ append_assoc groups (g.0 ∷ []) rest.0) in
    (g.0 ∷ rest.0, whole, (numeral_takes 16 4 word g.0 g.1, rest.2))

pub on_again : (groups : List ℕ) (words : List (List ℕ)) (more : List ℕ) → AreGroups words more
    → length groups + length more ≤ 8 → groups_on groups words ≡ Some (groups ++ more)
unfolding groups_on
on_again groups [] [] h le = ap (λ (x : List ℕ). Some x) (sym (append-nil groups))
on_again groups [] (g ∷ more) h le = absurd h
on_again groups (word ∷ words) [] h le = absurd h
on_again groups (word ∷ words) (g ∷ more) h le =
    let first = numeral_again 16 4 word g h.0 in
    let next = one_again groups g (omega arith) in
    let long : length (groups ++ g ∷ []) ≡ length groups + 1 = length-append groups (g ∷ []) in
    rw (first, next) (on_again (groups ++ g ∷ []) words more h.1 (omega (arith, long))
    ∙ ap (λ (x : List ℕ). Some x) (append_assoc groups (g ∷ []) more))

pub padded_again : (groups : List ℕ) (n : ℕ) → length groups + n ≤ 8 → padded groups n ≡ Some (groups ++ replicate n 0)
unfolding padded
padded_again groups zero le = ap (λ (x : List ℕ). Some x) (sym (append-nil groups))
padded_again groups (suc n) le =
    let next = one_again groups 0 (omega arith) in
    let long : length (groups ++ 0 ∷ []) ≡ length groups + 1 = length-append groups (0 ∷ []) in
    rw next (padded_again (groups ++ 0 ∷ []) n (omega (arith, long))
    ∙ ap (λ (x : List ℕ). Some x) (append_assoc groups (0 ∷ []) (replicate n 0)))
