-- The number that is read of a word is spelled so, and a number that is spelled is read again.
use Rattle.std.proofs.Common.{◌≡◌, ℕ, ◌+◌, ◌-◌, ◌*◌, ◌<◌, ◌≤◌, ◌^◌, true, ltb, leb, List, [], ◌∷◌, length, get_or, Some}
use Rattle.std.proofs.Common.{None, refl, sym, ap, ◌∙◌, arith, rules, lit<, inl, inr}
use Rattle.std.specs.Char.{is_ascii_digit}
use Rattle.std.specs.Fmt.{decimal}
use Rattle.std.specs.Str.{all_ascii_digits}
use Rattle.std.proofs.Common.{◌&&◌}
use Rattle.std.proofs.lemmas.Bool.{eq-eqb, ne_eqb, cases_eq, cases_lt, leb-true, ltb-true, lt-ltb}
use Rattle.std.proofs.lemmas.Str.Parse.{IsNumeralModel, numerals_by_fold}
use Rattle.std.proofs.lemmas.Fmt.{digits_decimal, digits_value-decimal, decimal-digits_value, decimal_nonempty}
use Rattle.std.proofs.lemmas.Fmt.{first_decimal, decimal_digit}
use Rattle.text_fields.specs.Cuts.{Lacks}
use Rattle.text_fields.specs.Number.{with_digit, digits_of, number_of}
use Rattle.text_fields.proofs.Steps.{bind_some, some_is, both, chosen}

abbrev pub read_on : ℕ → List ℕ → ℕ
read_on n [] = n
read_on n (c ∷ cs) = read_on (10 * n + (c - 48)) cs

pub own : IsNumeralModel (λ ds. all_ascii_digits ds ≡ true) (read_on 0)
own = numerals_by_fold _ (search rules) read_on (search rules)

digits_take : (word : List ℕ) (n m : ℕ) → n < 2 ^ 64 → digits_of n word ≡ Some m
    → (all_ascii_digits word ≡ true) × (read_on n word ≡ m) × (m < 2 ^ 64)
unfolding digits_of with_digit
digits_take [] n m lt e = let same = some_is n m e in (refl, same, omega arith)
digits_take (b ∷ word) n m lt e =
    let s = bind_some (with_digit n b) (λ k. digits_of k word) m e in
    let c = chosen (is_ascii_digit b && ltb (10 * n + (b - 48)) (2 ^ 64)) (Some (10 * n + (b - 48))) s.0 s.1 in
    let t = both (is_ascii_digit b) (ltb (10 * n + (b - 48)) (2 ^ 64)) c.0 in
    let k : 10 * n + (b - 48) ≡ s.0 = some_is _ _ c.1 in
    let more = digits_take word s.0 m (omega (arith, ltb-true (10 * n + (b - 48)) (2 ^ 64) t.1)) s.2 in
    (rw (t.0, more.0) refl, rw k more.1, more.2)

grows : (word : List ℕ) (n : ℕ) → n ≤ read_on n word
grows [] n = omega arith
grows (b ∷ word) n = omega (arith, grows word (10 * n + (b - 48)))

digits_again : (word : List ℕ) (n : ℕ) → all_ascii_digits word ≡ true → read_on n word < 2 ^ 64
    → digits_of n word ≡ Some (read_on n word)
unfolding digits_of with_digit
digits_again [] n d lt = refl
digits_again (b ∷ word) n d lt =
    let t = both (is_ascii_digit b) (all_ascii_digits word) d in
    let below : ltb (10 * n + (b - 48)) (2 ^ 64) ≡ true = lt-ltb _ _ (omega (arith, grows word (10 * n + (b - 48)))) in
    rw (t.0, below) (digits_again word (10 * n + (b - 48)) t.1 lt)

pub number_takes : (word : List ℕ) (n : ℕ) → number_of word ≡ Some n → (word ≡ decimal n) × (n < 2 ^ 64)
unfolding number_of
number_takes [] n e = absurd cc
number_takes (b ∷ []) n e =
    let d = digits_take (b ∷ []) 0 n (lit< tt) e in
    let back = decimal-digits_value own (b ∷ []) d.0 (omega arith) (λ h. refl) (omega (arith, d.1, d.2)) in
    (sym back ∙ ap decimal d.1, d.2)
number_takes (b ∷ c ∷ word) n e =
    elim (cases_eq b 48) [
      | inl same ↦ let none = rw (eq-eqb b 48 same) at e in absurd (none-is n none)
      | inr other ↦
          let found = rw (ne_eqb b 48 other) at e in
          let d = digits_take (b ∷ c ∷ word) 0 n (lit< tt) found in
          let back = decimal-digits_value own (b ∷ c ∷ word) d.0 (omega arith) (λ h. absurd (other h))
          (omega (arith, d.1, d.2)) in
          (sym back ∙ ap decimal d.1, d.2)
    ]
  where
    none-is : (n : ℕ) → None ≡ Some n → ⊥
    none-is n e = cc

numeral_again : (ds : List ℕ) → all_ascii_digits ds ≡ true → 0 < length ds → (get_or ds 0 0 ≡ 48 → length ds ≡ 1)
    → read_on 0 ds < 2 ^ 64 → number_of ds ≡ Some (read_on 0 ds)
unfolding number_of
numeral_again [] d some lead lt = absurd (omega arith)
numeral_again (b ∷ []) d some lead lt = digits_again (b ∷ []) 0 d lt
numeral_again (b ∷ c ∷ ds) d some lead lt =
    rw (ne_eqb b 48 (λ h. absurd (omega (arith, lead h)))) (digits_again (b ∷ c ∷ ds) 0 d lt)

pub number_again : (n : ℕ) → n < 2 ^ 64 → number_of (decimal n) ≡ Some n
number_again n lt =
    let value : read_on 0 (decimal n) ≡ n = digits_value-decimal own n lt in
    let lead : get_or (decimal n) 0 0 ≡ 48 → length (decimal n) ≡ 1 = λ h. elim (cases_lt 0 n) [
      | inl pos ↦ absurd (omega (arith, first_decimal n pos lt))
      | inr none ↦ ap length (decimal_digit n (omega arith))
    ] in
    numeral_again (decimal n) (digits_decimal own n lt) (decimal_nonempty n lt) lead (omega arith)
    ∙ ap (λ (k : ℕ). Some k) value

digits_lack : (stop : ℕ) (ds : List ℕ) → stop < 48 → all_ascii_digits ds ≡ true → Lacks stop ds
digits_lack stop [] low d = tt
digits_lack stop (b ∷ ds) low d =
    let t = both (is_ascii_digit b) (all_ascii_digits ds) d in
    let r = both (leb 48 b) (leb b 57) t.0 in
    (λ e. absurd (omega (arith, leb-true 48 b r.0)), digits_lack stop ds low t.1)

-- a number has no spaces, colons or line feeds
pub decimal_lacks : (stop n : ℕ) → stop < 48 → n < 2 ^ 64 → Lacks stop (decimal n)
decimal_lacks stop n low lt = digits_lack stop (decimal n) low (digits_decimal own n lt)
