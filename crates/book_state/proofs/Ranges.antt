-- A pool's units lie in rows of their own size.
use Rattle.std.proofs.Common.{◌≡◌, ℕ, ◌+◌, ◌-◌, ◌*◌, ◌/◌, ◌%◌, ◌^◌, ◌<◌, ◌≤◌, Bool, true, ap, ap₂, sym, ◌∙◌, arith}
use Rattle.std.proofs.Common.{refl, subst}
use Rattle.std.proofs.lemmas.Nat.{pow-add, pow_pos, div_below, div-add-mod', div-mul-add, le-div, row_fits}
use Rattle.std.proofs.lemmas.Bool.Decides.{nat_tests}
use Rattle.std.proofs.Math.Pow.{pow-lt, pow_mono}
use Rattle.std.specs.Prelude.{◌↔◌, false}
use Rattle.std.proofs.Math.Nat.{mul-mod_left, div-eq_of_eq-mul_left, div-mul-le_self, lt-div-mul-add}
use Rattle.std.proofs.Math.Nat.{div-div-eq-div-mul, div-eq_of_eq-mul_right, mul_comm, mul_assoc, add-mul}
use Rattle.prefix_range.specs.Prefix.{Prefix, size_of, IsPrefix, Contains}
use Rattle.book_state.specs.declared.pool.Pool.{Pool}
use Rattle.book_state.specs.Book.{is_in, units_in}
use Rattle.book_state.specs.Places.{IsPool, IsUnitAt, index_in}

pub size_positive : (length : ℕ) → 0 < size_of length
size_positive length = pow_pos (128 - length)

-- a prefix has whole rows of each smaller size
pub rows : (short long : ℕ) → short ≤ long → long ≤ 128 → size_of short ≡ size_of long * 2 ^ (long - short)
rows short long le most =
    let n : 128 - short ≡ (128 - long) + (long - short) = omega arith in
    ap (λ (n : ℕ). 2 ^ n) n ∙ pow-add 2 (128 - long) (long - short)

-- the address begins a row of as many addresses
pub row : (p : Prefix) → IsPrefix p → p.address / size_of p.length * size_of p.length ≡ p.address
row p h = omega (arith, div-add-mod' p.address (size_of p.length), h.host_bits)

-- a prefix ends within the addresses
pub ends_within : (p : Prefix) → IsPrefix p → p.address + size_of p.length ≤ 2 ^ 128
ends_within p h =
    let size = size_of p.length in
    let whole : 2 ^ 128 ≡ 2 ^ p.length * size = let n : 128 ≡ p.length + (128 - p.length) = omega (arith, h.short) in
    ap (λ (n : ℕ). 2 ^ n) n ∙ pow-add 2 p.length (128 - p.length) in
    let place : p.address / size < 2 ^ p.length =
    div_below p.address size (2 ^ p.length) (pow_pos (128 - p.length)) (omega (arith, whole, h.address)) in
    let end : p.address / size * size + size ≤ 2 ^ p.length * size =
    row_fits (p.address / size) size (2 ^ p.length) size place (omega arith) in
    omega (arith, whole, row p h, end)

pub record IsWithin (pool : Pool) (p : Prefix) : Type 0 where
  pub bits : p.length ≡ pool.unit_length
  pub first : p.address / size_of pool.prefix.length ≡ pool.prefix.address / size_of pool.prefix.length

pub within : (pool : Pool) (p : Prefix) → is_in pool p ≡ true → IsWithin pool p
within pool p e = record { bits = grind (arith, nat_tests); first = grind (arith, nat_tests) }

pub is_within : (pool : Pool) (p : Prefix) → IsWithin pool p → is_in pool p ≡ true
is_within pool p h = rw (h.bits, h.first) (grind (arith, nat_tests))

-- a unit begins in its pool
pub begins : (pool : Pool) (p : Prefix) → IsPool pool → IsWithin pool p
    → (pool.prefix.address ≤ p.address) × (p.address < pool.prefix.address + size_of pool.prefix.length)
begins pool p h is =
    let s = size_of pool.prefix.length in
    let x = div-mul-le_self p.address s in
    let y = lt-div-mul-add {a = p.address} {b = s} (size_positive pool.prefix.length) in
    let f : p.address / s * s ≡ pool.prefix.address = ap (λ (n : ℕ). n * s) is.first ∙ row pool.prefix h.prefix in
    (omega (arith, x, f), omega (arith, y, f))

-- the pool's address begins a row of its units
pub begins_unit : (pool : Pool) (p : Prefix) → IsPool pool → IsWithin pool p
    → pool.prefix.address / size_of p.length * size_of p.length ≡ pool.prefix.address
begins_unit pool p h is =
    let s = size_of p.length in
    let k = pool.prefix.address / size_of pool.prefix.length in
    let many : size_of pool.prefix.length ≡ s * units_in pool =
    rw is.bits (rows pool.prefix.length pool.unit_length h.longer h.short) in
    let times : pool.prefix.address ≡ s * (k * units_in pool) =
    sym (row pool.prefix h.prefix) ∙ (ap (λ (n : ℕ). k * n) many
    ∙ (sym (mul_assoc k s (units_in pool)) ∙ (ap (λ (n : ℕ). n * units_in pool) (mul_comm k s)
    ∙ mul_assoc s k (units_in pool)))) in
    let whole : pool.prefix.address / s ≡ k * units_in pool = div-eq_of_eq-mul_right (size_positive p.length) times in
    rw whole (mul_comm (k * units_in pool) s ∙ sym times)

-- the place of a unit is less than how many the pool has
pub index_below : (pool : Pool) (p : Prefix) → IsPool pool → IsWithin pool p → index_in pool p < units_in pool
index_below pool p h is =
    let s = size_of p.length in
    let b = begins pool p h is in
    let many : size_of pool.prefix.length ≡ s * units_in pool =
    rw is.bits (rows pool.prefix.length pool.unit_length h.longer h.short) in
    let turned : units_in pool * s ≡ s * units_in pool = mul_comm (units_in pool) s in
    let split : (pool.prefix.address / s + units_in pool) * s ≡ pool.prefix.address / s * s + units_in pool * s =
    add-mul (pool.prefix.address / s) (units_in pool) s in
    let row = begins_unit pool p h is in
    let below : p.address / s < pool.prefix.address / s + units_in pool
    = div_below p.address s (pool.prefix.address / s + units_in pool) (size_positive p.length)
    (omega (arith, b.1, many, turned, split, row)) in
    let some : 0 < units_in pool = pow_pos (pool.unit_length - pool.prefix.length) in
    omega (arith, below, some)

abbrev prefix_at : ℕ → ℕ → Prefix
prefix_at address length = record { address = address; length = length }

-- units at one place of a pool are one
pub one_index : (pool : Pool) (p q : Prefix) → IsPool pool → IsWithin pool p → IsWithin pool q
    → p.address % size_of p.length ≡ 0 → q.address % size_of q.length ≡ 0 → index_in pool p ≡ index_in pool q → p ≡ q
one_index pool p q h hp hq rp rq e =
    let s = size_of p.length in
    let bits : q.length ≡ p.length = hq.bits ∙ sym hp.bits in
    let size : size_of q.length ≡ s = ap size_of bits in
    let start = div-mul-le_self pool.prefix.address s in
    let up : pool.prefix.address / s ≤ p.address / s =
    le-div (pool.prefix.address / s) p.address s (size_positive p.length)
    (omega (arith, start, (begins pool p h hp).0)) in
    let uq : pool.prefix.address / s ≤ q.address / s =
    le-div (pool.prefix.address / s) q.address s (size_positive p.length)
    (omega (arith, start, (begins pool q h hq).0)) in
    let e2 : p.address / s - pool.prefix.address / s ≡ q.address / s - pool.prefix.address / s
    = e ∙ ap (λ (n : ℕ). q.address / n - pool.prefix.address / n) size in
    let same : p.address / s ≡ q.address / s = omega (arith, up, uq, e2) in
    let xp : p.address / s * s ≡ p.address = omega (arith, div-add-mod' p.address s, rp) in
    let xq : q.address / s * s ≡ q.address = let r : q.address % s ≡ 0 = rw (sym size) rq in
    omega (arith, div-add-mod' q.address s, r) in
    let first : p.address ≡ q.address = sym xp ∙ (ap (λ (n : ℕ). n * s) same ∙ xq) in
    ap₂ prefix_at first (sym bits)

-- a prefix of the unit length lies in the pool exactly where it begins there
pub within_contained : (pool : Pool) (p : Prefix) → IsPrefix p → p.length ≡ pool.unit_length → Contains pool.prefix p
    → IsWithin pool p
within_contained pool p h bits c = record { bits = bits; first = (c p.address (h.address, refl)).1 }

pub contained_within : (pool : Pool) (p : Prefix) → IsPool pool → IsWithin pool p → Contains pool.prefix p
contained_within pool p h is a has =
    let many : size_of pool.prefix.length ≡ size_of p.length * units_in pool =
    rw is.bits (rows pool.prefix.length pool.unit_length h.longer h.short) in
    let up : (n : ℕ) → n / size_of p.length / units_in pool ≡ n / size_of pool.prefix.length
    = λ n. div-div-eq-div-mul n (size_of p.length) (units_in pool) ∙ ap (λ (m : ℕ). n / m) (sym many) in
    (has.0, sym (up a) ∙ ap (λ (n : ℕ). n / units_in pool) has.1 ∙ up p.address ∙ is.first)

-- what the code asks of a prefix
pub has_decided : (pool : Pool) (p : Prefix) (r : Bool) → IsPool pool → IsPrefix p → p.length ≡ pool.unit_length
    → (r ≡ true ↔ Contains pool.prefix p) → r ≡ is_in pool p
has_decided pool p r h good bits iff = by_answer r refl where
  by_answer : (b : Bool) → r ≡ b → b ≡ is_in pool p
  by_answer true e = sym (is_within pool p (within_contained pool p good bits (iff.0 e)))
  by_answer false e = by_test (is_in pool p) refl where
    by_test : (c : Bool) → is_in pool p ≡ c → false ≡ c
    by_test false is = refl
    by_test true is = (let yes : r ≡ true = iff.1 (contained_within pool p h (within pool p is)) in absurd cc)

-- a pool's bits
pub few_bits : (k : ℕ) → k ≤ 16 → 2 ^ k ≤ 65536
few_bits k le = pow_mono {i = k} {j = 16} le

pub many_bits : (k : ℕ) → 16 < k → 65536 < 2 ^ k
many_bits k lt = pow-lt {i = 16} {j = k} lt

-- the pool's address is so many rows of its units
aligned_pool : (pool : Pool) → IsPool pool → pool.prefix.address / size_of pool.unit_length * size_of pool.unit_length
    ≡ pool.prefix.address
aligned_pool pool h =
    let s = size_of pool.unit_length in
    let k = pool.prefix.address / size_of pool.prefix.length in
    let many = rows pool.prefix.length pool.unit_length h.longer h.short in
    let times : pool.prefix.address ≡ k * units_in pool * s =
    sym (row pool.prefix h.prefix) ∙ (ap (λ (n : ℕ). k * n) many
    ∙ (ap (λ (n : ℕ). k * n) (mul_comm s (units_in pool)) ∙ sym (mul_assoc k (units_in pool) s))) in
    let whole : pool.prefix.address / s ≡ k * units_in pool =
    div-eq_of_eq-mul_left (size_positive pool.unit_length) times in
    rw whole (sym times)

abbrev pub placed : Pool → ℕ → Prefix
placed pool i = record { address = pool.prefix.address + i * size_of pool.unit_length; length = pool.unit_length }

-- the units of a pool end with it
pub placed_below : (pool : Pool) (i : ℕ) → IsPool pool → i < units_in pool
    → i * size_of pool.unit_length + size_of pool.unit_length ≤ size_of pool.prefix.length
placed_below pool i h lt =
    let fits : i * size_of pool.unit_length + size_of pool.unit_length ≤ units_in pool * size_of pool.unit_length =
    row_fits i (size_of pool.unit_length) (units_in pool) (size_of pool.unit_length) lt (omega arith) in
    let many = rows pool.prefix.length pool.unit_length h.longer h.short in
    let turned : units_in pool * size_of pool.unit_length ≡ size_of pool.unit_length * units_in pool =
    mul_comm (units_in pool) (size_of pool.unit_length) in
    omega (arith, fits, many, turned)

pub unit_placed_at : (pool : Pool) (i : ℕ) (p : Prefix) → IsPool pool → i < units_in pool → p ≡ placed pool i
    → IsUnitAt pool i p
unit_placed_at pool i p h lt is =
    let s = size_of pool.unit_length in
    let k = pool.prefix.address / s in
    let positive : 0 < s = size_positive pool.unit_length in
    let below = placed_below pool i h lt in
    let end = ends_within pool.prefix h.prefix in
    let start : k * s ≡ pool.prefix.address = aligned_pool pool h in
    let sum : pool.prefix.address + i * s ≡ (k + i) * s = ap (λ (n : ℕ). n + i * s) (sym start) ∙ sym (add-mul k i s) in
    let big = row pool.prefix h.prefix in
    let K = pool.prefix.address / size_of pool.prefix.length in
    let first : (pool.prefix.address + i * s) / size_of pool.prefix.length ≡ K =
    ap (λ (n : ℕ). (n + i * s) / size_of pool.prefix.length) (sym big)
    ∙ div-mul-add K (size_of pool.prefix.length) (i * s) (omega (arith, below, positive)) in
    let at : (pool.prefix.address + i * s) / s ≡ k + i = ap (λ (n : ℕ). n / s) sum
    ∙ div-eq_of_eq-mul_left positive refl in
    subst (IsUnitAt pool i) (sym is) (record {
      whole = record {
        short = h.short;
        address = omega (arith, below, end, positive);
        host_bits =
            rw sum (mul-mod_left (k + i) s);
      };
      within = is_within pool (placed pool i) (record { bits = refl; first = first });
      place = omega (arith, at);
      address = refl;
    })

-- the only unit of a pool of its own length
pub whole_pool : (pool : Pool) (i : ℕ) (p : Prefix) → IsPool pool → i < units_in pool → pool.unit_length ≡ 0
    → p ≡ pool.prefix → IsUnitAt pool i p
whole_pool pool i p h lt zero is =
    let le = h.longer in
    let bits : pool.prefix.length ≡ pool.unit_length = omega arith in
    let one : units_in pool ≡ 1 = ap (λ (n : ℕ). 2 ^ (pool.unit_length - n)) bits
    ∙ (let z : pool.unit_length - pool.unit_length ≡ 0 = omega arith in ap (λ (n : ℕ). 2 ^ n) z) in
    let none : i ≡ 0 = omega (arith, lt, one) in
    let sum : pool.prefix.address ≡ pool.prefix.address + i * size_of pool.unit_length = rw none (omega arith) in
    unit_placed_at pool i p h lt (is ∙ ap₂ prefix_at sum bits)

-- each unit of a pool is the one at its place
pub unit_of_place : (pool : Pool) (i : ℕ) (p q : Prefix) → IsPool pool → IsUnitAt pool i p → IsPrefix q
    → is_in pool q ≡ true → index_in pool q ≡ i → q ≡ p
unit_of_place pool i p q h at good is e =
    one_index pool q p h (within pool q is) (within pool p at.within) good.host_bits (let w = at.whole in
    w.host_bits) (e ∙ sym at.place)

pub placed_fits : (pool : Pool) (i : ℕ) → IsPool pool → i < units_in pool
    → pool.prefix.address + i * size_of pool.unit_length < 2 ^ 128
placed_fits pool i h lt =
    let below = placed_below pool i h lt in
    let end = ends_within pool.prefix h.prefix in
    let positive = size_positive pool.unit_length in
    omega (arith, below, end, positive)
