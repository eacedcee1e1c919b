-- What a change of one unit, and one more pool, make of a table.
use Rattle.std.proofs.Common.{◌≡◌, ℕ, ◌+◌, ◌-◌, ◌%◌, ◌<◌, ◌≤◌, ◌==◌, ◌⊎◌, Bool, true, false, List, [], ◌∷◌, ◌++◌}
use Rattle.std.proofs.Common.{length, ap, sym, ◌∙◌, subst, arith, inl, inr, refl, ap₂, Option, Some, None, get_or, take}
use Rattle.std.proofs.Common.{length-append}
use Rattle.std.specs.Prelude.{if◌then◌else◌, Contains as Has, replicate, zero, suc}
use Rattle.std.specs.List.{sum_by}
use Rattle.std.proofs.Math.ListN.{set, get_or-append, length-set, length-replicate}
use Rattle.std.proofs.Math.Seq.{get_or-append_right}
use Rattle.std.proofs.lemmas.List.{get_or-set_same, get_or-set_other, get_or_default, take_all}
use Rattle.std.proofs.lemmas.List.Sums.{sum_by-cons, sum_by-append, sum_by-set, count_by-le-length}
use Rattle.std.proofs.lemmas.List.Folds.{sum_by-replicate}
use Rattle.std.proofs.lemmas.List.Elements.{All-push, Contains-push_cases, Contains-append_right}
use Rattle.std.proofs.lemmas.Bool.Decides.{nat_tests}
use Rattle.prefix_range.specs.Prefix.{Prefix, size_of, IsPrefix, Overlaps}
use Rattle.binding_rules.specs.declared.unit.Unit.{Unit as UnitValue}
use Rattle.binding_rules.specs.Unit.{fresh}
use Rattle.book_state.specs.declared.pool.Pool.{Pool}
use Rattle.book_state.specs.Book.{units_in}
use Rattle.book_state.specs.Effects.{same_prefix}
use Rattle.book_state.specs.Places.{Delegable, IsPool, AreDisjoint, IsDelegable, mark_of, place_on, unit_by, unit_at}
use Rattle.book_state.proofs.PlaceLaws.{place_within, one_place, pushed_place}

abbrev prefix_at : ℕ → ℕ → Prefix
prefix_at address length = record { address = address; length = length }

pub same_means : (p q : Prefix) → same_prefix p q ≡ true → p ≡ q
same_means p q e = ap₂ prefix_at (grind (arith, nat_tests)) (grind (arith, nat_tests))

pub same_itself : (p : Prefix) → same_prefix p p ≡ true
same_itself p = grind (arith, nat_tests)

pub put_unit : (pools : List Pool) (units : List UnitValue) (marks : ℕ) (p : Prefix) (i : ℕ) (u : UnitValue)
    → IsDelegable pools units marks → IsPrefix p
    → place_on 0 pools p ≡ Some i → (q : Prefix)
    → unit_at (record { pools = pools; units = set units i u }) q
    ≡ (if same_prefix q p then u else unit_at (record { pools = pools; units = units }) q)
unfolding unit_at
put_unit pools units marks p i u h good at q = by_same (same_prefix q p) refl where
  inside : i < length units
  inside = let w = place_within 0 pools p i h.each at in omega (arith, w.below, h.whole)

  placed : (b : Bool) (o : Option ℕ) → place_on 0 pools q ≡ o → (q.address % size_of q.length == 0) ≡ b
      → same_prefix q p ≡ false
      → (if b then unit_by (set units i u) o else fresh) ≡ (if b then unit_by units o else fresh)
  placed false o e aligned apart = refl
  placed true None e aligned apart = refl
  placed true (Some j) e aligned apart = get_or-set_other units i j u fresh (λ same. (
      let there : place_on 0 pools q ≡ Some i = e ∙ ap Some same in
      let one = one_place 0 pools q p i h.each (grind (arith, nat_tests)) good.host_bits there at in
      let yes : same_prefix q p ≡ true = rw one (same_itself p) in
      absurd cc))

  by_same : (b : Bool) → same_prefix q p ≡ b
      → unit_at (record { pools = pools; units = set units i u }) q
      ≡ (if b then u else unit_at (record { pools = pools; units = units }) q)
  by_same true e =
      let one = same_means q p e in
      let zero : (p.address % size_of p.length == 0) ≡ true = let r = good.host_bits in grind (arith, nat_tests) in
      rw (one, zero, at) (get_or-set_same units i u fresh inside)
  by_same false e = placed (q.address % size_of q.length == 0) (place_on 0 pools q) refl refl e

fresh_anywhere : (n i : ℕ) → get_or (replicate n fresh) i fresh ≡ fresh
fresh_anywhere zero i = refl
fresh_anywhere (suc n) zero = refl
fresh_anywhere (suc n) (suc i) = fresh_anywhere n i

pub add_pool : (pools : List Pool) (units : List UnitValue) (marks n : ℕ) (more : Pool) → IsDelegable pools units marks
    → IsPool more → (q : Prefix)
    → unit_at (record { pools = pools ++ more ∷ []; units = units ++ replicate n fresh }) q
    ≡ unit_at (record { pools = pools; units = units }) q
unfolding unit_at
add_pool pools units marks n more h good q = aligned (q.address % size_of q.length == 0) where
  stays : (o : Option ℕ) → place_on 0 pools q ≡ o → unit_by (units ++ replicate n fresh) o ≡ unit_by units o
  stays None e = refl
  stays (Some j) e = let w = place_within 0 pools q j h.each e in
      get_or-append units (replicate n fresh) fresh j (omega (arith, w.below, h.whole))

  behind : (o : Option ℕ) → ((i : ℕ) → o ≡ Some i → 0 + sum_by units_in pools ≤ i)
      → unit_by (units ++ replicate n fresh) o ≡ fresh
  behind None past = refl
  behind (Some j) past = get_or-append_right units (replicate n fresh) j fresh (omega (arith, past j refl, h.whole))
      ∙ fresh_anywhere n (j - length units)

  found : (place_on 0 (pools ++ more ∷ []) q ≡ place_on 0 pools q)
      ⊎ ((place_on 0 pools q ≡ None) × ((i : ℕ) → place_on 0 (pools ++ more ∷ []) q ≡ Some i
      → 0 + sum_by units_in pools ≤ i))
      → unit_by (units ++ replicate n fresh) (place_on 0 (pools ++ more ∷ []) q) ≡ unit_by units (place_on 0 pools q)
  found (inl e) = rw e (stays (place_on 0 pools q) refl)
  found (inr x) = behind (place_on 0 (pools ++ more ∷ []) q) x.1 ∙ rw x.0 refl

  aligned : (b : Bool)
      → (if b then unit_by (units ++ replicate n fresh) (place_on 0 (pools ++ more ∷ []) q) else fresh)
      ≡ (if b then unit_by units (place_on 0 pools q) else fresh)
  aligned false = refl
  aligned true = found (pushed_place 0 pools more q good)

-- the unit of a place
pub unit_placed : (pools : List Pool) (units : List UnitValue) (p : Prefix) (i : ℕ) (u : UnitValue) → IsPrefix p
    → place_on 0 pools p ≡ Some i → i < length units
    → u ≡ get_or units i u → u ≡ unit_at (record { pools = pools; units = units }) p
unfolding unit_at
unit_placed pools units p i u good at lt is =
    let zero : (p.address % size_of p.length == 0) ≡ true = let r = good.host_bits in grind (arith, nat_tests) in
    rw (zero, at) (is ∙ get_or_default units i u fresh lt)

pub unit_nowhere : (t : Delegable) (p : Prefix) → place_on 0 t.pools p ≡ None → fresh ≡ unit_at t p
unfolding unit_at
unit_nowhere t p e = by_test (p.address % size_of p.length == 0) where
  by_test : (b : Bool) → fresh ≡ (if b then unit_by t.units (place_on 0 t.pools p) else fresh)
  by_test false = refl
  by_test true = rw e refl

pub disjoint_push : (pools : List Pool) (more : Pool) → AreDisjoint pools
    → ((q : Pool) → Has pools q → Overlaps q.prefix more.prefix → ⊥) → AreDisjoint (pools ++ more ∷ [])
disjoint_push [] more d apart = (λ q has. absurd (omega (arith, has.1)), tt)
disjoint_push (pool ∷ pools) more d apart = (
  λ q has meets. (elim (Contains-push_cases pools more q has) [
    | inl old ↦ d.0 q old meets
    | inr same ↦ apart pool (0, omega arith, refl)
        (subst (λ (r : Pool). Overlaps pool.prefix r.prefix) (sym same) meets)
  ]),
  disjoint_push pools more d.1 (λ q has. apart q (Contains-append_right (pool ∷ []) pools q has)),
)

-- one pool more
pub delegable_push : (pools : List Pool) (units : List UnitValue) (marks : ℕ) (more : Pool)
    → IsDelegable pools units marks → IsPool more
    → ((q : Pool) → Has pools q → Overlaps q.prefix more.prefix → ⊥) → sum_by units_in pools + units_in more ≤ 65536
    → IsDelegable (pools ++ more ∷ []) (units ++ replicate (units_in more) fresh) marks
delegable_push pools units marks more h good apart few =
    let all : sum_by units_in (pools ++ more ∷ []) ≡ sum_by units_in pools + units_in more
    = sum_by-append units_in pools (more ∷ []) ∙ omega (arith, sum_by-cons units_in more []) in
    let none : sum_by mark_of (replicate (units_in more) fresh) ≡ 0 =
    sum_by-replicate mark_of (units_in more) fresh ∙ omega arith in
    record {
      each = All-push IsPool pools more h.each good;
      disjoint = disjoint_push pools more h.disjoint apart;
      whole = omega (
        arith,
        length-append units (replicate (units_in more) fresh),
        length-replicate (units_in more) fresh,
        h.whole,
        all,
      );
      few = omega (arith, all, few);
      marked = omega (arith, h.marked, none, sum_by-append mark_of units (replicate (units_in more) fresh));
    }

-- one unit changed
pub delegable_set : (pools : List Pool) (units : List UnitValue) (marks i : ℕ) (u was : UnitValue)
    → IsDelegable pools units marks → i < length units
    → was ≡ get_or units i was → IsDelegable pools (set units i u) (marks - mark_of was + mark_of u)
delegable_set pools units marks i u was h lt is =
    let old : mark_of (get_or units i fresh) ≡ mark_of was =
    ap mark_of (get_or_default units i fresh was lt ∙ sym is) in
    let change = sum_by-set mark_of units i u fresh lt in
    let least = sum_by-set mark_of units i fresh fresh lt in
    record {
      each = h.each;
      disjoint = h.disjoint;
      whole = omega (arith, length-set units i u, h.whole);
      few = h.few;
      marked = omega (arith, h.marked, old, change, least);
    }

-- a mark adds at most one
pub marks_few : (pools : List Pool) (units : List UnitValue) (marks : ℕ) → IsDelegable pools units marks → marks ≤ 65536
marks_few pools units marks h = omega (arith, marks_below units, h.marked, h.whole, h.few) where
  marks_below : (us : List UnitValue) → sum_by mark_of us ≤ length us
  marks_below us = count_by-le-length (λ u. u.marked) us

pub mark_one : (u : UnitValue) → mark_of u ≤ 1
mark_one u = by_test u.marked where
  by_test : (b : Bool) → (if b then 1 else 0) ≤ 1
  by_test true = omega arith
  by_test false = omega arith

-- what is filled up with fresh units
pub filled_up : (units : List UnitValue) (to was n : ℕ) (u : UnitValue) → was ≡ length units → to ≡ length units + n
    → u ≡ fresh
    → take to units ++ replicate (to - was) u ≡ units ++ replicate n fresh
filled_up units to was n u is sum e =
    let all : take to units ≡ units = take_all to units (omega arith) in
    let many : to - was ≡ n = omega arith in
    rw (all, many, e) refl

-- without pools each unit is fresh
pub none_changed : (p : Prefix) → unit_at (record { pools = []; units = [] }) p ≡ fresh
unfolding place_on
none_changed p = sym (unit_nowhere (record { pools = []; units = [] }) p refl)
