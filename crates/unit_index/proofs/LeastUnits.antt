-- The lowest unit of a kind, pool by pool.
use Rattle.std.proofs.Common.{◌≡◌, ℕ, ◌+◌, ◌*◌, ◌<◌, ◌≤◌, ◌⊎◌, ◌||◌, Bool, true, false, nat_le, List, [], ◌∷◌, ◌++◌}
use Rattle.std.proofs.Common.{length, take, get_or, zero, suc, ap, sym, ◌∙◌, subst, arith, inl, inr, refl, Option, Some}
use Rattle.std.proofs.Common.{None, add-one}
use Rattle.std.specs.Prelude.{◌%◌, if◌then◌else◌, All}
use Rattle.std.proofs.Math.Nat.{eq-or-lt_of_le, mul-le-mul_right}
use Rattle.std.proofs.Math.Seq.{take-suc}
use Rattle.std.proofs.lemmas.List.{take_all}
use Rattle.std.proofs.lemmas.List.Sums.{get_or-le-sum_by}
use Rattle.std.proofs.lemmas.List.Elements.{All-get_or, All-head, All-tail}
use Rattle.std.proofs.lemmas.Bool.Decides.{nat_tests}
use Rattle.prefix_range.specs.Prefix.{Prefix, IsPrefix, size_of}
use Rattle.book_state.specs.declared.pool.Pool.{Pool}
use Rattle.book_state.specs.Book.{BookState, is_in, is_unit, units_in}
use Rattle.book_state.specs.Places.{IsPool, IsUnitAt, ArePools, index_in}
use Rattle.book_state.proofs.Ranges.{within, index_below, one_index, unit_of_place, unit_placed_at, placed}
use Rattle.unit_index.specs.declared.searching.UnitQuery.{UnitQuery}
use Rattle.unit_index.specs.Units.{IsLowest, IsLeastOf}
use Rattle.unit_index.specs.Searching.{IsSome, IsThere, IsThereIn, lower_of}

-- none of a pool's units up to a place is wanted
pub record NoneBefore (b : BookState) (w : UnitQuery) (from : ℕ) (pool : Pool) (i : ℕ) : Type 0 where
  pub each : (q : Prefix) → IsThereIn b w from pool q → i ≤ index_in pool q

pub none_at_first : (b : BookState) (w : UnitQuery) (from : ℕ) (pool : Pool) → NoneBefore b w from pool 0
none_at_first b w from pool = record { each = λ q there. omega arith }

pub none_further : (b : BookState) (w : UnitQuery) (from : ℕ) (pool : Pool) (i : ℕ) (p : Prefix) → IsPool pool
    → NoneBefore b w from pool i → IsUnitAt pool i p → (IsThere b w from p → ⊥) → NoneBefore b w from pool (i + 1)
none_further b w from pool i p h none at out = record {
  each = λ q there. elim (eq-or-lt_of_le (none.each q there)) [
    | inl e ↦ absurd
        (out (subst (IsThere b w from) (unit_of_place pool i p q h at there.1.0.whole there.0 (sym e)) there.1))
    | inr lt ↦ omega (arith, lt)
  ];
}

pub none_at_all : (b : BookState) (w : UnitQuery) (from : ℕ) (pool : Pool) (i : ℕ) → IsPool pool → units_in pool ≤ i
    → NoneBefore b w from pool i → (q : Prefix) → IsThereIn b w from pool q → ⊥
none_at_all b w from pool i h le none q there =
    let below = index_below pool q h (within pool q there.0) in
    let past = none.each q there in
    omega (arith, below, past)

-- a unit's address goes by its place
pub address_at : (pool : Pool) (q : Prefix) → IsPool pool → IsPrefix q → is_in pool q ≡ true
    → q.address ≡ pool.prefix.address + index_in pool q * size_of pool.unit_length
address_at pool q h good is =
    let i = index_in pool q in
    let at = unit_placed_at pool i (placed pool i) h (index_below pool q h (within pool q is)) refl in
    ap (λ (p : Prefix). p.address) (unit_of_place pool i (placed pool i) q h at good is refl)

pub found_first : (b : BookState) (w : UnitQuery) (from : ℕ) (pool : Pool) (i : ℕ) (p : Prefix) → IsPool pool
    → NoneBefore b w from pool i → IsUnitAt pool i p → IsThere b w from p → IsLowest (IsThereIn b w from pool) p
found_first b w from pool i p h none at there = (
  (at.within, there),
  λ q other. (
      let past = none.each q other in
      let here = at.address in
      let far = address_at pool q h other.1.0.whole other.0 in
      let size = size_of pool.unit_length in
      let more : i * size ≤ index_in pool q * size = mul-le-mul_right size past in
      omega (arith, here, far, more)),
)

-- ---- pool behind pool

abbrev pub IsThereAmong : BookState → UnitQuery → ℕ → List Pool → Prefix → Type 0
IsThereAmong b w from pools p = (is_unit pools p ≡ true) × IsThere b w from p

-- the lowest of those in the pools that were walked so far
pub record IsLeastSo (b : BookState) (w : UnitQuery) (from : ℕ) (pools : List Pool) (i : ℕ) (o : Option Prefix) :
    Type 0 where
  pub least : IsLeastOf (IsThereAmong b w from (take i pools)) o

pub least_at_first : (b : BookState) (w : UnitQuery) (from : ℕ) (pools : List Pool) → IsLeastSo b w from pools 0 None
least_at_first b w from pools = record { least = λ q there. absurd (let no = there.0 in cc) }

lower_least : (P Q R : Prefix → Type 0) (x y : Option Prefix) → ((q : Prefix) → P q → R q) → ((q : Prefix) → Q q → R q)
    → ((q : Prefix) → R q → P q ⊎ Q q)
    → IsLeastOf P x → IsLeastOf Q y → IsLeastOf R (lower_of x y)
lower_least P Q R None None p q r hx hy = λ z is. elim (r z is) [ inl a ↦ hx z a | inr a ↦ hy z a ]
lower_least P Q R None (Some y) p q r hx hy =
    (q y hy.0, λ z is. elim (r z is) [ inl a ↦ absurd (hx z a) | inr a ↦ hy.1 z a ])
lower_least P Q R (Some x) None p q r hx hy =
    (p x hx.0, λ z is. elim (r z is) [ inl a ↦ hx.1 z a | inr a ↦ absurd (hy z a) ])
lower_least P Q R (Some x) (Some y) p q r hx hy = by_test (nat_le x.address y.address) refl where
  by_test : (t : Bool) → nat_le x.address y.address ≡ t → IsLeastOf R (if t then Some x else Some y)
  by_test true e =
      let le : x.address ≤ y.address = grind (arith, nat_tests) in
      (p x hx.0, λ z is. elim (r z is) [ inl a ↦ hx.1 z a | inr a ↦ (let k = hy.1 z a in omega (arith, k, le)) ])
  by_test false e =
      let le : y.address ≤ x.address = grind (arith, nat_tests) in
      (q y hy.0, λ z is. elim (r z is) [ inl a ↦ (let k = hx.1 z a in omega (arith, k, le)) | inr a ↦ hy.1 z a ])

-- a prefix is a unit of the pools up to here, or of the next
pub unit_last : (pools : List Pool) (pool : Pool) (p : Prefix)
    → is_unit (pools ++ pool ∷ []) p ≡ (is_unit pools p || is_in pool p)
unit_last [] pool p = by_test (is_in pool p) where
  by_test : (t : Bool) → (t || false) ≡ t
  by_test true = refl
  by_test false = refl
unit_last (x ∷ xs) pool p = ap (λ t. is_in x p || t) (unit_last xs pool p)
    ∙ sym (or_over (is_in x p) (is_unit xs p) (is_in pool p)) where
      or_over : (r s t : Bool) → ((r || s) || t) ≡ (r || (s || t))
      or_over true s t = refl
      or_over false s t = refl

pub either : (s t : Bool) → (s || t) ≡ true → (s ≡ true) ⊎ (t ≡ true)
either true t e = inl refl
either false t e = inr e

pub either_first : (s t : Bool) → s ≡ true → (s || t) ≡ true
either_first true t e = refl
either_first false t e = absurd (cc)

pub either_last : (s t : Bool) → t ≡ true → (s || t) ≡ true
either_last true t e = refl
either_last false t e = e

pub is_among : (pools : List Pool) (i : ℕ) (pool : Pool) (p : Prefix) → i < length pools → pool ≡ get_or pools i pool
    → is_in pool p ≡ true → is_unit pools p ≡ true
is_among [] i pool p lt is within = absurd (omega arith)
is_among (x ∷ xs) zero pool p lt is within =
    either_first (is_in x p) (is_unit xs p) (ap (λ (q : Pool). is_in q p) (sym is) ∙ within)
is_among (x ∷ xs) (suc i) pool p lt is within =
    either_last (is_in x p) (is_unit xs p) (is_among xs i pool p (omega arith) is within)

pub least_further : (b : BookState) (w : UnitQuery) (from : ℕ) (pools : List Pool) (i : ℕ) (pool : Pool)
    (x y : Option Prefix) → i < length pools → pool ≡ get_or pools i pool
    → IsLeastSo b w from pools i x → IsLeastOf (IsThereIn b w from pool) y
    → IsLeastSo b w from pools (i + 1) (lower_of x y)
least_further b w from pools i pool x y lt is so last =
    let longer : take (i + 1) pools ≡ take i pools ++ pool ∷ [] =
    rw (add-one, take-suc pools i pool lt) (ap (λ (k : Pool). take i pools ++ k ∷ []) (sym is)) in
    let units : (q : Prefix) → is_unit (take (i + 1) pools) q ≡ (is_unit (take i pools) q || is_in pool q) =
    λ q. ap (λ (ps : List Pool). is_unit ps q) longer ∙ unit_last (take i pools) pool q in
    record {
      least = lower_least (IsThereAmong b w from (take i pools)) (IsThereIn b w from pool)
          (IsThereAmong b w from (take (i + 1) pools)) x y
          (λ q h. (units q ∙ either_first (is_unit (take i pools) q) (is_in pool q) h.0, h.1))
          (λ q h. (units q ∙ either_last (is_unit (take i pools) q) (is_in pool q) h.0, h.1))
          (λ q h. elim (either (is_unit (take i pools) q) (is_in pool q) (sym (units q) ∙ h.0)) [
            | inl a ↦ inl (a, h.1)
            | inr a ↦ inr (a, h.1)
          ])
          so.least last;
    }

pub least_map : (P Q : Prefix → Type 0) (o : Option Prefix) → ((q : Prefix) → P q → Q q) → ((q : Prefix) → Q q → P q)
    → IsLeastOf P o → IsLeastOf Q o
least_map P Q None to from h = λ q is. h q (from q is)
least_map P Q (Some p) to from h = (to p h.0, λ q is. h.1 q (from q is))

pub least_at_last : (b : BookState) (w : UnitQuery) (from : ℕ) (pools : List Pool) (i : ℕ) (o : Option Prefix)
    → b.pools ≡ pools → length pools ≤ i → IsLeastSo b w from pools i o → IsLeastOf (IsThere b w from) o
least_at_last b w from pools i o same le so =
    let all : take i pools ≡ pools = take_all i pools le in
    least_map (IsThereAmong b w from (take i pools)) (IsThere b w from) o (λ q h. h.1)
    (λ q h. (subst (λ (ps : List Pool). is_unit ps q ≡ true) (same ∙ sym all) h.0.unit, h)) so.least

pub few_in : (pools : List Pool) (i : ℕ) (pool : Pool) → ArePools pools → i < length pools → pool ≡ get_or pools i pool
    → units_in pool ≤ 65536
few_in pools i pool h lt is =
    let le = get_or-le-sum_by units_in pools i pool lt in
    let same : units_in pool ≡ units_in (get_or pools i pool) = ap units_in is in
    omega (arith, le, same, h.few)

pub pool_in : (pools : List Pool) (i : ℕ) (pool : Pool) → ArePools pools → i < length pools
    → pool ≡ get_or pools i pool → IsPool pool
pool_in pools i pool h lt is = subst IsPool (sym is) (All-get_or IsPool pools i pool lt h.each)

-- from the first address on is anywhere
pub least_anywhere : (b : BookState) (w : UnitQuery) (o : Option Prefix) → IsLeastOf (IsThere b w 0) o
    → IsLeastOf (IsSome b w) o
least_anywhere b w o h = least_map (IsThere b w 0) (IsSome b w) o (λ q is. (is.0, is.1))
    (λ q is. (is.0, is.1, omega arith)) h

-- what begins with a unit is the unit at its place
unit_whole_in : (pool : Pool) (p : Prefix) → IsPool pool → is_in pool p ≡ true → p.address % size_of p.length ≡ 0
    → IsPrefix p
unit_whole_in pool p good is whole =
    let i = index_in pool p in
    let at = unit_placed_at pool i (placed pool i) good (index_below pool p good (within pool p is)) refl in
    let there = at.whole in
    let same = one_index pool p (placed pool i) good (within pool p is)
    (within pool (placed pool i) at.within) whole there.host_bits (sym at.place) in
    subst IsPrefix (sym same) there

pub unit_whole : (pools : List Pool) (p : Prefix) → All IsPool pools → is_unit pools p ≡ true
    → p.address % size_of p.length ≡ 0 → IsPrefix p
unit_whole [] p good is whole = absurd (cc)
unit_whole (x ∷ xs) p good is whole = elim (either (is_in x p) (is_unit xs p) is) [
  | inl a ↦ unit_whole_in x p (All-head IsPool x xs good) a whole
  | inr a ↦ unit_whole xs p (All-tail IsPool x xs good) a whole
]
