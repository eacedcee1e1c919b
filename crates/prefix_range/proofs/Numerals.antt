-- Numerals: what the loop over digits meets, and which octets a numeral lacks.
use Rattle.std.proofs.Common.{◌≡◌, ℕ, ◌+◌, ◌<◌, ◌≤◌, List, length, get_or, drop, Some, refl, add-one}
use Rattle.std.proofs.Math.Seq.{drop-cons}
use Rattle.std.proofs.lemmas.List.{drop_all}
use Rattle.text_fields.specs.Parsing.{◌>>=◌}
use Rattle.prefix_range.specs.Spelling.{with_digit, digits_on}

-- one more digit, or no number
pub digits_step : (base : ℕ) (word : List ℕ) (n i : ℕ) → i < length word
    → digits_on base n (drop i word) ≡ (with_digit base n (get_or word i 0)
    >>= λ m. digits_on base m (drop (i + 1) word))
unfolding digits_on
digits_step base word n i lt = rw (drop-cons word i 0 lt, add-one) refl

pub digits_end : (base : ℕ) (word : List ℕ) (n i : ℕ) → length word ≤ i → digits_on base n (drop i word) ≡ Some n
unfolding digits_on
digits_end base word n i le = rw (drop_all i word le) refl
