-- A prefix by its first and its last address.
use Rattle.std.proofs.Common.{◌≡◌, ℕ, ◌+◌, ◌-◌, ◌*◌, ◌/◌, ◌^◌, ◌<◌, ◌≤◌, ap, ◌∙◌, arith, inl, inr, refl}
use Rattle.std.proofs.lemmas.Nat.{pow-add, pow_pos, div_below, div-add-mod', row_fits}
use Rattle.std.proofs.Math.Nat.{add-mul, one-mul, div-mul-le_self, lt-div-mul-add, div-eq_of_lt-le}
use Rattle.std.proofs.lemmas.Bool.{cases_lt}
use Rattle.prefix_range.specs.Prefix.{Prefix, size_of, IsPrefix, HasAddress, Contains, Overlaps, IsFirst, IsLast}

pub size_positive : (length : ℕ) → 0 < size_of length
size_positive length = pow_pos (128 - length)

-- the address begins a row of as many addresses
pub row : (p : Prefix) → IsPrefix p → p.address / size_of p.length * size_of p.length ≡ p.address
row p h = omega (arith, div-add-mod' p.address (size_of p.length), h.host_bits)

-- a prefix ends within the addresses
pub ends_within : (p : Prefix) → IsPrefix p → p.address + size_of p.length ≤ 2 ^ 128
ends_within p h =
    let size = size_of p.length in
    let whole : 2 ^ 128 ≡ 2 ^ p.length * size = let n : 128 ≡ p.length + (128 - p.length) = omega (arith, h.short) in
    ap (λ (n : ℕ). 2 ^ n) n ∙ pow-add 2 p.length (128 - p.length) in
    let place : p.address / size < 2 ^ p.length =
    div_below p.address size (2 ^ p.length) (pow_pos (128 - p.length)) (omega (arith, whole, h.address)) in
    let end : p.address / size * size + size ≤ 2 ^ p.length * size =
    row_fits (p.address / size) size (2 ^ p.length) size place (omega arith) in
    omega (arith, whole, row p h, end)

-- the addresses that share the prefix's bits are those from its first to its last
pub from_first : (p : Prefix) (a : ℕ) → IsPrefix p → HasAddress p a
    → (p.address ≤ a) × (a < p.address + size_of p.length)
from_first p a h has =
    let s = size_of p.length in
    let x = div-mul-le_self a s in
    let y = lt-div-mul-add {a = a} {b = s} (size_positive p.length) in
    let f : a / s * s ≡ p.address = ap (λ (n : ℕ). n * s) has.1 ∙ row p h in
    (omega (arith, x, f), omega (arith, y, f))

next_times : (k s : ℕ) → (k + 1) * s ≡ k * s + s
next_times k s = simp (add-mul, one-mul)

pub to_last : (p : Prefix) (a : ℕ) → IsPrefix p → p.address ≤ a → a < p.address + size_of p.length → HasAddress p a
to_last p a h ge lt = (
  omega (arith, ends_within p h, lt),
  (let r = row p h in let e = next_times (p.address / size_of p.length) (size_of p.length) in
      div-eq_of_lt-le (size_of p.length) (omega (arith, r, ge)) (omega (arith, r, e, lt))),
)

pub is_first : (p : Prefix) → IsPrefix p → IsFirst p p.address
is_first p h = record { has = (h.address, refl); least = λ a has. (from_first p a h has).0 }

pub is_last : (p : Prefix) (last : ℕ) → IsPrefix p → last + 1 ≡ p.address + size_of p.length → IsLast p last
is_last p last h e = record {
  has = to_last p last h (omega (arith, e, size_positive p.length)) (omega (arith, e));
  greatest = λ a has. (let f = from_first p a h has in omega (arith, e, f.1));
}

-- one prefix holds another where it begins no later and ends no earlier
pub contains_by_ends : (p q : Prefix) → IsPrefix p → IsPrefix q → p.address ≤ q.address
    → q.address + size_of q.length ≤ p.address + size_of p.length → Contains p q
contains_by_ends p q hp hq first last a has = let f = from_first q a hq has in
    to_last p a hp (omega (arith, f.0, first)) (omega (arith, f.1, last))

pub ends_contained : (p q : Prefix) → IsPrefix p → IsPrefix q → Contains p q
    → (p.address ≤ q.address) × (q.address + size_of q.length ≤ p.address + size_of p.length)
ends_contained p q hp hq c =
    let some = size_positive q.length in
    let first = from_first p q.address hp (c q.address (to_last q q.address hq (omega arith) (omega (arith, some)))) in
    let end = q.address + size_of q.length - 1 in
    let last = from_first p end hp (c end (to_last q end hq (omega (arith, some)) (omega (arith, some)))) in
    (first.0, omega (arith, last.1))

-- two prefixes meet where neither ends before the other begins
pub overlaps_by_ends : (p q : Prefix) → IsPrefix p → IsPrefix q → p.address < q.address + size_of q.length
    → q.address < p.address + size_of p.length → Overlaps p q
overlaps_by_ends p q hp hq x y =
    elim (cases_lt p.address q.address) [
      | inl lt ↦ (
        q.address,
        to_last p q.address hp (omega (arith, lt)) y,
        to_last q q.address hq (omega arith) (omega (arith, size_positive q.length)),
      )
      | inr le ↦ (
        p.address,
        to_last p p.address hp (omega arith) (omega (arith, size_positive p.length)),
        to_last q p.address hq le x,
      )
    ]

pub ends_overlap : (p q : Prefix) → IsPrefix p → IsPrefix q → Overlaps p q
    → (p.address < q.address + size_of q.length) × (q.address < p.address + size_of p.length)
ends_overlap p q hp hq o =
    let x = from_first p o.0 hp o.1 in
    let y = from_first q o.0 hq o.2 in
    (omega (arith, x.0, y.1), omega (arith, y.0, x.1))
