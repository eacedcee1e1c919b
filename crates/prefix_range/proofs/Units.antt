-- The units of a pool lie in rows of their own size.
use Rattle.std.proofs.Common.{◌≡◌, ℕ, ◌+◌, ◌-◌, ◌*◌, ◌/◌, ◌%◌, ◌^◌, ◌<◌, ◌≤◌, ap, sym, ◌∙◌, subst, arith, inl, inr}
use Rattle.std.proofs.Common.{refl, Option, Some, Result, Ok}
use Rattle.std.specs.Result.{result_ok}
use Rattle.prefix_range.specs.declared.error.PrefixError.{PrefixError}
use Rattle.std.specs.Prelude.{IfSome, IfNone}
use Rattle.std.proofs.lemmas.Nat.{pow-add, row_fits}
use Rattle.std.proofs.lemmas.Bool.{cases_lt}
use Rattle.std.proofs.Math.Nat.{add-mul, mul_assoc, mul-mod_left, lt_of_mul-lt-mul_right}
use Rattle.std.proofs.Math.Pow.{pow-lt}
use Rattle.prefix_range.specs.Prefix.{Prefix, size_of, IsPrefix}
use Rattle.prefix_range.specs.Unit.{IsUnit}
use Rattle.prefix_range.proofs.Ends.{size_positive, row, ends_within, contains_by_ends, ends_contained}

-- a prefix has whole rows of each smaller size
rows : (short long : ℕ) → short ≤ long → long ≤ 128 → size_of short ≡ 2 ^ (long - short) * size_of long
rows short long le most = let n : 128 - short ≡ (long - short) + (128 - long) = omega arith in
    ap (λ (n : ℕ). 2 ^ n) n ∙ pow-add 2 (long - short) (128 - long)

at : ℕ → ℕ → Prefix
at address length = record { address = address; length = length }

-- the prefix at this place, where it begins within the pool
pub unit_is : (pool : Prefix) (length index : ℕ) → IsPrefix pool → pool.length ≤ length → length ≤ 128
    → index * size_of length < size_of pool.length
    → IsPrefix (record { address = pool.address + index * size_of length; length = length })
    × IsUnit pool length index (record { address = pool.address + index * size_of length; length = length })
unit_is pool length index h le most lt =
    let size = size_of length in
    let m = 2 ^ (length - pool.length) in
    let many : size_of pool.length ≡ m * size = rows pool.length length le most in
    let k = pool.address / size_of pool.length in
    let begins : pool.address ≡ k * m * size = sym (row pool h)
    ∙ (ap (λ (n : ℕ). k * n) many ∙ sym (mul_assoc k m size)) in
    let place : pool.address + index * size ≡ (k * m + index) * size =
    ap (λ (n : ℕ). n + index * size) begins ∙ sym (add-mul (k * m) index size) in
    let below : index < m = lt_of_mul-lt-mul_right size (omega (arith, many, lt)) in
    let fits : index * size + size ≤ m * size = row_fits index size m size below (omega arith) in
    let end = ends_within pool h in
    let some = size_positive length in
    let good : IsPrefix (record { address = pool.address + index * size; length = length }) = record {
      short = most;
      address = omega (arith, many, fits, end, some);
      host_bits = ap (λ (n : ℕ). n % size) place ∙ mul-mod_left (k * m + index) size;
    } in (
      good,
      record {
        inside = contains_by_ends pool (record { address = pool.address + index * size; length = length }) h good
            (omega arith) (omega (arith, many, fits));
        bits = refl;
        place = refl;
      },
    )

-- a unit is no longer than its pool is and lies within it
pub unit_bounds : (pool : Prefix) (length index : ℕ) (u : Prefix) → IsPrefix pool → IsPrefix u
    → IsUnit pool length index u
    → (pool.length ≤ length) × (length ≤ 128)
    × (pool.address + index * size_of length + size_of length ≤ pool.address + size_of pool.length)
unit_bounds pool length index u h good is =
    let ends = ends_contained pool u h good is.inside in
    let size : size_of u.length ≡ size_of length = ap size_of is.bits in
    let short : length ≤ 128 = omega (arith, good.short, is.bits) in
    let end : pool.address + index * size_of length + size_of length ≤ pool.address + size_of pool.length =
    omega (arith, ends.1, size, is.place) in
    elim (cases_lt length pool.length) [
      | inl lt ↦ let more = pow-lt {i = 128 - pool.length} {j = 128 - length} (omega (arith, lt, h.short)) in
          absurd (omega (arith, more, end))
      | inr le ↦ (le, short, end)
    ]

-- what is made at an address within the pool is the unit there
pub unit_found : (pool : Prefix) (length index address : ℕ) (r : Result Prefix PrefixError) (o : Option Prefix)
    → IsPrefix pool → pool.length ≤ length → length ≤ 128 → address ≡ pool.address + index * size_of length
    → address < pool.address + size_of pool.length
    → (length ≤ 128 → address % size_of length ≡ 0 → r ≡ Ok (record { address = address; length = length }))
    → o ≡ result_ok r
    → IfSome o (λ u. IsUnit pool length index u) × IfNone o ((u : Prefix) → IsPrefix u → IsUnit pool length index u → ⊥)
unfolding at
unit_found pool length index address r o h le most e lt ok same =
    let u = unit_is pool length index h le most (omega (arith, lt, e)) in
    let p : Prefix = record { address = address; length = length } in
    let is : o ≡ Some p = same ∙ ap result_ok (ok most (ap (λ (n : ℕ). n % size_of length) e ∙ u.0.host_bits)) in
    let good : IsUnit pool length index p = subst (λ (n : ℕ). IsUnit pool length index (at n length)) (sym e) u.1 in
    (rw is good, rw is tt)
