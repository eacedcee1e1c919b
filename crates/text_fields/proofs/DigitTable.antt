-- The table of digits has what each octet stands for.
use Rattle.std.proofs.Common.{◌≡◌, ℕ, ◌<◌, List, get_or, Option, Some, None, refl, ap, ◌∙◌, arith}
use Rattle.std.specs.Prelude.{map, MatchOption}
use Rattle.std.specs.List.{range_with_len}
use Rattle.std.proofs.lemmas.Bool.Decides.{nat_tests}
use Rattle.std.proofs.lemmas.List.FromFn.{get_or-map-range_with_len}
use Rattle.text_fields.specs.Octets.{hex_value}
use Rattle.text_fields.specs.declared.octets.TheConstants.{DIGIT_VALUES}

-- what an octet stands for, or 256
abbrev or_256 : Option ℕ → ℕ
or_256 None = 256
or_256 (Some n) = n

whole : DIGIT_VALUES ≡ map (λ b. or_256 (hex_value b)) (range_with_len 0 256)
unfolding hex_value
whole = refl

small : (b n : ℕ) → hex_value b ≡ Some n → n < 16
unfolding hex_value
small b n e = grind (arith, nat_tests)

pub table_has : (b : ℕ) → b < 256 → MatchOption (hex_value b) (get_or DIGIT_VALUES b 0 ≡ 256)
    (λ n. (get_or DIGIT_VALUES b 0 ≡ n) × (n < 16))
table_has b lt =
    let entry : get_or DIGIT_VALUES b 0 ≡ or_256 (hex_value b) =
    ap (λ (t : List ℕ). get_or t b 0) whole
    ∙ get_or-map-range_with_len (λ b. or_256 (hex_value b)) 0 256 b b 0 lt (omega arith) in
    by (hex_value b) (get_or DIGIT_VALUES b 0) entry (λ n e. small b n e)
  where
    by : (o : Option ℕ) (v : ℕ) → v ≡ or_256 o → ((n : ℕ) → o ≡ Some n → n < 16)
        → MatchOption o (v ≡ 256) (λ n. (v ≡ n) × (n < 16))
    by None v e h = e
    by (Some n) v e h = (e, h n refl)
