-- Groups that are read one by one.
use Rattle.std.proofs.Common.{◌≡◌, ◌≢◌, ℕ, suc, ◌+◌, ◌-◌, ◌*◌, ◌/◌, ◌%◌, ◌^◌, ◌<◌, ◌≤◌, List, [], ◌∷◌, ◌++◌, length}
use Rattle.std.proofs.Common.{Some, None, refl, sym, ap, ◌∙◌, arith, add-one, eqb, lit<, true}
use Rattle.std.proofs.lemmas.Bool.{lt-ltb, le-ltb, eq-eqb, ne_eqb}
use Rattle.std.proofs.Math.Nat.{pow-succ', pow-le-pow_right}
use Rattle.text_fields.specs.Parsing.{◌>>=◌}
use Rattle.prefix_range.specs.Text.{groups_of}
use Rattle.prefix_range.specs.RowOf.{IsRow}
use Rattle.prefix_range.specs.Parsing.{with_one, padded, whole}
use Rattle.prefix_range.proofs.Groups.{length-groups}
use Rattle.prefix_range.proofs.TextLaws.{groups-value}

pub none_row : IsRow 0 0
none_row = record { few = omega arith; fits = lit< tt }

pub none_is : groups_of 0 0 ≡ []
unfolding groups_of
none_is = refl

pub count_is : (count address : ℕ) → count ≡ length (groups_of count address)
count_is count address = sym (length-groups count address)

-- one group more
next_power : (n : ℕ) → 65536 ^ (n + 1) ≡ 65536 * 65536 ^ n
next_power n = rw add-one (pow-succ' 65536 n)

pub fits_more : (n a g : ℕ) → IsRow n a → n < 8 → g < 65536 → 65536 * a + g < 65536 ^ (n + 1)
fits_more n a g h lt fits = omega (arith, next_power n, h.fits)

pub power_most : (n : ℕ) → n ≤ 8 → 65536 ^ n ≤ 2 ^ 128
power_most n le = pow-le-pow_right {n = 65536} (lit< tt) {i = n} {j = 8} le

pub groups_next : (n a g : ℕ) → g < 65536 → groups_of (n + 1) (a * 65536 + g) ≡ groups_of n a ++ g ∷ []
unfolding groups_of
groups_next n a g lt =
    let high : (a * 65536 + g) / 65536 ≡ a = omega (arith, lt) in
    let low : (a * 65536 + g) % 65536 ≡ g = omega (arith, lt) in
    rw (add-one, high, low) refl

pub whole_is : (n a : ℕ) → IsRow n a → n ≡ 8 → whole (groups_of n a) ≡ Some a
unfolding whole
whole_is n a h e =
    let eight : eqb (length (groups_of n a)) 8 ≡ true = eq-eqb _ _ (length-groups n a ∙ e) in
    rw eight (ap (λ (x : ℕ). Some x) (groups-value n a h.fits))

pub whole_none : (n a : ℕ) → n ≢ 8 → whole (groups_of n a) ≡ None
unfolding whole
whole_none n a ne = rw (ne_eqb (length (groups_of n a)) 8 (λ e. ne (sym (length-groups n a) ∙ e))) refl

-- one group more, in the row's own numbers
pub with_is : (n a g : ℕ) → n < 8 → g < 65536 → with_one (groups_of n a) g ≡ Some (groups_of (n + 1) (a * 65536 + g))
unfolding with_one
with_is n a g lt fits = rw (
  lt-ltb (length (groups_of n a)) 8 (omega (arith, length-groups n a)),
  groups_next n a g fits,
) refl

pub with_none : (n a g : ℕ) → 8 ≤ n → with_one (groups_of n a) g ≡ None
unfolding with_one
with_none n a g le = rw (le-ltb (length (groups_of n a)) 8 (omega (arith, length-groups n a))) refl

pub with_row : (n a g : ℕ) → IsRow n a → n < 8 → g < 65536 → IsRow (n + 1) (a * 65536 + g)
with_row n a g h lt fits = record { few = omega arith; fits = omega (arith, fits_more n a g h lt fits) }

-- and it fits 128 bits
pub with_fits : (n a g : ℕ) → IsRow n a → n < 8 → g < 65536 → a * 65536 + g < 2 ^ 128
with_fits n a g h lt fits = omega (arith, fits_more n a g h lt fits, power_most (n + 1) (omega arith))

pub product_fits : (n a : ℕ) → IsRow n a → n < 8 → a * 65536 < 2 ^ 128
product_fits n a h lt = omega (arith, with_fits n a 0 h lt (lit< tt))

-- ---- zeros

pub pad_step : (groups : List ℕ) (n i : ℕ) → i < n → padded groups (n - i)
    ≡ (with_one groups 0 >>= λ more. padded more (n - (i + 1)))
unfolding padded
pad_step groups n i lt =
    let left : n - i ≡ suc (n - (i + 1)) = omega arith in
    rw left refl

pub pad_end : (groups : List ℕ) (n i : ℕ) → n ≤ i → padded groups (n - i) ≡ Some groups
unfolding padded
pad_end groups n i le =
    let left : n - i ≡ 0 = omega arith in
    rw left refl
