-- Decimals of a second, digit by digit.
use Rattle.std.proofs.Common.{◌≡◌, ℕ, ◌+◌, ◌-◌, ◌*◌, ◌/◌, ◌<◌, ◌≤◌, List, length, get_or, drop, true, false, refl}
use Rattle.std.proofs.Common.{arith, add-one, mul-le-mul_left}
use Rattle.std.proofs.Math.Seq.{drop-cons}
use Rattle.std.proofs.lemmas.List.{drop_all}
use Rattle.std.specs.Char.{is_ascii_digit}
use Rattle.time_text.specs.Time.{fraction}

-- one more digit
pub fraction_step : (digits : List ℕ) (worth i : ℕ) → i < length digits → is_ascii_digit (get_or digits i 0) ≡ true
    → fraction worth (drop i digits) ≡ worth * (get_or digits i 0 - 48) + fraction (worth / 10) (drop (i + 1) digits)
unfolding fraction
fraction_step digits worth i lt is = rw (drop-cons digits i 0 lt, add-one, is) refl

-- an octet that is none
pub fraction_stop : (digits : List ℕ) (worth i : ℕ) → i < length digits → is_ascii_digit (get_or digits i 0) ≡ false
    → fraction worth (drop i digits) ≡ 0
unfolding fraction
fraction_stop digits worth i lt is = rw (drop-cons digits i 0 lt, is) refl

pub fraction_end : (digits : List ℕ) (worth i : ℕ) → length digits ≤ i → fraction worth (drop i digits) ≡ 0
unfolding fraction
fraction_end digits worth i le = rw (drop_all i digits le) refl

more : (total rest step left whole : ℕ) → total + rest ≡ whole → rest ≡ step + left → total + step + left ≡ whole
more total rest step left whole kept is = omega arith

pub one_kept : (total worth rest digit d left whole : ℕ) → total + rest ≡ whole → rest ≡ worth * d + left → digit ≡ d
    → total + worth * digit + left ≡ whole
one_kept total worth rest digit d left whole kept is same = rw same (more total rest (worth * d) left whole kept is)

pub one_within : (total worth digit : ℕ) → total + 10 * worth ≤ 1000 → digit ≤ 9
    → total + worth * digit + 10 * (worth / 10) ≤ 1000
one_within total worth digit kept least = omega (arith, mul-le-mul_left worth least)
