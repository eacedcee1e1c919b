-- The count of marks is 0 exactly where no unit is marked.
use Rattle.std.proofs.Common.{◌≡◌, ℕ, ◌+◌, ◌-◌, ◌*◌, ◌/◌, ◌%◌, ◌<◌, ◌≤◌, ◌==◌, ◌⊎◌, ◌||◌, Bool, true, false, List, []}
use Rattle.std.proofs.Common.{◌∷◌, length, ap, sym, ◌∙◌, arith, inl, inr, refl, Option, Some, None, get_or}
use Rattle.std.specs.Prelude.{if◌then◌else◌, All, Contains as Has, zero, suc}
use Rattle.std.specs.List.{sum_by}
use Rattle.std.proofs.lemmas.Nat.{row_fits}
use Rattle.std.proofs.lemmas.Bool.{cases_lt}
use Rattle.std.proofs.lemmas.Bool.Decides.{nat_tests}
use Rattle.std.proofs.lemmas.List.Sums.{sum_by-cons}
use Rattle.std.proofs.lemmas.List.Elements.{All-head, All-tail, Contains-append_right}
use Rattle.std.proofs.Math.Nat.{add-mul, mul_comm, mul-mod_left, div-eq_of_lt-le, div-eq_of_eq-mul_left}
use Rattle.prefix_range.specs.Prefix.{Prefix, size_of, IsPrefix, Overlaps}
use Rattle.binding_rules.specs.declared.unit.Unit.{Unit as UnitValue}
use Rattle.binding_rules.specs.Unit.{fresh}
use Rattle.book_state.specs.declared.pool.Pool.{Pool}
use Rattle.book_state.specs.Book.{is_in, is_unit, units_in}
use Rattle.book_state.specs.Places.{Delegable, IsPool, AreDisjoint, IsDelegable, mark_of, index_in, place_on, unit_by}
use Rattle.book_state.specs.Places.{unit_at, AreUnmarked}
use Rattle.book_state.proofs.Ranges.{IsWithin, within, is_within, rows, row, size_positive, ends_within, begins_unit}
use Rattle.book_state.proofs.Ranges.{contained_within}
use Rattle.book_state.proofs.PlaceLaws.{is_placed}

abbrev prefix_at : ℕ → ℕ → Prefix
prefix_at address length = record { address = address; length = length }

-- the unit of a pool at a place
pub record IsUnitAt (pool : Pool) (i : ℕ) (p : Prefix) : Type 0 where
  pub good : IsPrefix p
  pub within : IsWithin pool p
  pub place : index_in pool p ≡ i

unit_of_pool : (pool : Pool) (i : ℕ) → IsPool pool → i < units_in pool
    → IsUnitAt pool i (record {
      address = pool.prefix.address + i * size_of pool.unit_length;
      length =
          pool.unit_length;
    })
unit_of_pool pool i h lt =
    let s = size_of pool.unit_length in
    let some : 0 < s = size_positive pool.unit_length in
    let first : Prefix = record { address = pool.prefix.address; length = pool.unit_length } in
    let many : size_of pool.prefix.length ≡ s * units_in pool =
    rows pool.prefix.length pool.unit_length h.longer h.short in
    let start : pool.prefix.address / s * s ≡ pool.prefix.address =
    begins_unit pool first h (record { bits = refl; first = refl }) in
    let k = pool.prefix.address / s in
    let turned : units_in pool * s ≡ s * units_in pool = mul_comm (units_in pool) s in
    let fits : i * s + s ≤ units_in pool * s = row_fits i s (units_in pool) s lt (omega arith) in
    let end = ends_within pool.prefix h.prefix in
    let place : pool.prefix.address + i * s ≡ (k + i) * s = ap (λ (n : ℕ). n + i * s) (sym start)
    ∙ sym (add-mul k i s) in
    let whole : (pool.prefix.address + i * s) / s ≡ k + i = div-eq_of_eq-mul_left some place in
    let S = size_of pool.prefix.length in
    let r : pool.prefix.address / S * S ≡ pool.prefix.address = row pool.prefix h.prefix in
    let next : (pool.prefix.address / S + 1) * S ≡ pool.prefix.address / S * S + S =
    add-mul (pool.prefix.address / S) 1 S ∙ omega arith in
    record {
      good = record {
        short = h.short;
        address = omega (arith, fits, end, many, turned, some);
        host_bits = ap (λ (n : ℕ). n % s) place ∙ mul-mod_left (k + i) s;
      };
      within = record {
        bits = refl;
        first = div-eq_of_lt-le S (omega (arith, r)) (omega (arith, r, next, fits, many, turned, some));
      };
      place = ap (λ (n : ℕ). n - k) whole ∙ omega arith;
    }

-- a unit of one of the pools is no unit of another
pub apart : (pool : Pool) (pools : List Pool) (p : Prefix) → IsPool pool → All IsPool pools
    → ((q : Pool) → Has pools q → Overlaps pool.prefix q.prefix → ⊥)
    → IsPrefix p → is_unit pools p ≡ true → is_in pool p ≡ true → ⊥
apart pool [] p h hs d good unit is = absurd cc
apart pool (q ∷ pools) p h hs d good unit is =
    found (apart pool pools p h (All-tail IsPool q pools hs) (λ r has.
    d r (Contains-append_right (q ∷ []) pools r has)) good) (is_in q p) refl unit where
      found : (is_unit pools p ≡ true → is_in pool p ≡ true → ⊥) → (b : Bool) → is_in q p ≡ b
          → (b || is_unit pools p) ≡ true → ⊥
      found more true e unit = d q (0, omega arith, refl) (
        p.address,
        contained_within pool p h (within pool p is) p.address (good.address, refl),
        contained_within q p (All-head IsPool q pools hs) (within q p e) p.address (good.address, refl),
      )
      found more false e unit = more unit is

-- each place is a unit's
pub record HasPlace (n : ℕ) (pools : List Pool) (i : ℕ) : Type 0 where
  pub prefix : Prefix
  pub good : IsPrefix prefix
  pub at : place_on n pools prefix ≡ Some (n + i)

pub unit_of_place : (n : ℕ) (pools : List Pool) (i : ℕ) → All IsPool pools → AreDisjoint pools
    → i < sum_by units_in pools → HasPlace n pools i
unfolding place_on
unit_of_place n [] i h d lt = absurd (omega arith)
unit_of_place n (pool ∷ pools) i h d lt =
    found (λ k. unit_of_place (n + units_in pool) pools k (All-tail IsPool pool pools h) d.1)
    (cases_lt i (units_in pool)) where
      by_test : (b : Bool) → (b ≡ true → ⊥) → b ≡ false
      by_test false no_way = refl
      by_test true no_way = absurd (no_way refl)

      found : ((k : ℕ) → k < sum_by units_in pools → HasPlace (n + units_in pool) pools k)
          → (i < units_in pool) ⊎ (units_in pool ≤ i) → HasPlace n (pool ∷ pools) i
      found more (inl below) =
          let u = unit_of_pool pool i (All-head IsPool pool pools h) below in
          let p : Prefix = record {
            address = pool.prefix.address + i * size_of pool.unit_length;
            length =
                pool.unit_length;
          } in
          let is : is_in pool p ≡ true = is_within pool p u.within in
          record { prefix = p; good = u.good; at = rw is (ap (λ (k : ℕ). Some (n + k)) u.place) }
      found more (inr past) =
          let rest = more (i - units_in pool) (omega (arith, lt, sum_by-cons units_in pool pools)) in
          let out : is_in pool rest.prefix ≡ false =
          by_test (is_in pool rest.prefix) (λ is. apart pool pools rest.prefix (All-head IsPool pool pools h)
          (All-tail IsPool pool pools h) d.0 rest.good
          (is_placed (n + units_in pool) pools rest.prefix _ rest.at) is) in
          let same : n + units_in pool + (i - units_in pool) ≡ n + i = omega arith in
          record { prefix = rest.prefix; good = rest.good; at = rw out (rest.at ∙ ap Some same) }

each_unmarked : (units : List UnitValue) → sum_by mark_of units ≡ 0 → (i : ℕ) → (get_or units i fresh).marked ≡ false
each_unmarked [] e i = refl
each_unmarked (u ∷ us) e zero = by_test u.marked (omega (arith, e, sum_by-cons mark_of u us)) where
  by_test : (b : Bool) → if◌then◌else◌ {A = ℕ} b 1 0 ≡ 0 → b ≡ false
  by_test false e = refl
  by_test true e = absurd (omega arith)
each_unmarked (u ∷ us) e (suc i) = each_unmarked us (omega (arith, e, sum_by-cons mark_of u us)) i

none_marked : (units : List UnitValue) → ((i : ℕ) → i < length units → (get_or units i fresh).marked ≡ false)
    → sum_by mark_of units ≡ 0
none_marked [] each = refl
none_marked (u ∷ us) each =
    let head : mark_of u ≡ 0 = rw (each 0 (omega arith)) refl in
    let rest = none_marked us (λ i lt. each (suc i) (omega arith)) in
    omega (arith, head, rest, sum_by-cons mark_of u us)

pub unmarked_by_count : (t : Delegable) (marks : ℕ) → IsDelegable t.pools t.units marks → marks ≡ 0 → AreUnmarked t
unfolding unit_at
unmarked_by_count t marks h e p unit = by_test (p.address % size_of p.length == 0) (place_on 0 t.pools p) where
  by_test : (b : Bool) (o : Option ℕ) → (if b then unit_by t.units o else fresh).marked ≡ false
  by_test false o = refl
  by_test true None = refl
  by_test true (Some i) = each_unmarked t.units (omega (arith, h.marked, e)) i

pub count_by_unmarked : (t : Delegable) (marks : ℕ) → IsDelegable t.pools t.units marks → AreUnmarked t → marks ≡ 0
unfolding unit_at
count_by_unmarked t marks h un = omega (arith, h.marked, none_marked t.units each) where
  each : (i : ℕ) → i < length t.units → (get_or t.units i fresh).marked ≡ false
  each i lt =
      let p = unit_of_place 0 t.pools i h.each h.disjoint (omega (arith, lt, h.whole)) in
      let at : place_on 0 t.pools p.prefix ≡ Some i = p.at ∙ ap Some (omega arith) in
      let zero : (p.prefix.address % size_of p.prefix.length == 0) ≡ true = let r = p.good.host_bits in
      grind (arith, nat_tests) in
      let here = un p.prefix (is_placed 0 t.pools p.prefix i at) in
      rw (zero, at) at here
