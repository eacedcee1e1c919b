-- From when on a unit may be expired, pool by pool.
use Rattle.std.proofs.Common.{◌≡◌, ℕ, ◌+◌, ◌^◌, ◌<◌, ◌≤◌, ◌⊎◌, ◌||◌, Bool, true, false, nat_le, List, [], ◌∷◌, ◌++◌}
use Rattle.std.proofs.Common.{length, take, get_or, ap, sym, ◌∙◌, subst, refl, inl, inr, arith, Option, Some, None}
use Rattle.std.proofs.Common.{add-one}
use Rattle.std.specs.Prelude.{min, max}
use Rattle.std.proofs.Math.Seq.{take-suc}
use Rattle.std.proofs.lemmas.List.{take_all, length-map}
use Rattle.std.proofs.lemmas.Bool.Decides.{nat_tests}
use Rattle.prefix_range.specs.Prefix.{Prefix}
use Rattle.binding_rules.specs.declared.unit.UnitStatus.{UnitStatus}
use Rattle.binding_rules.specs.declared.unit.UnitStatus.TheVariants.{Free, FreeBackup, Active, Expired, Released}
use Rattle.binding_rules.specs.declared.unit.Unit.{Unit as UnitValue}
use Rattle.binding_rules.specs.declared.update.Status.TheVariants.{Active as ActiveKind}
use Rattle.binding_rules.specs.Unit.{status_of}
use Rattle.book_state.specs.declared.pool.Pool.{Pool}
use Rattle.book_state.specs.Book.{BookState, is_in, is_unit}
use Rattle.book_state.specs.Places.{IsPool, index_in}
use Rattle.book_state.proofs.Ranges.{within, index_below, placed, unit_placed_at}
use Rattle.unit_index.specs.declared.unit_kinds.UnitKinds.{UnitKinds}
use Rattle.unit_index.specs.declared.pool_tree.PoolTree.{PoolTree}
use Rattle.unit_index.specs.Kinds.{earlier, ends_by}
use Rattle.unit_index.specs.KindTreeForms.{IsKindTreeOf}
use Rattle.unit_index.specs.KindTrees.{leaf, IsLeastEnd}
use Rattle.unit_index.specs.PoolTrees.{HasKinds, pools_of}
use Rattle.unit_index.specs.Queries.{MayExpire, IsToExpire, IsFirstExpiry}
use Rattle.unit_index.proofs.PoolCharts.{stands_at}
use Rattle.unit_index.proofs.LeastUnits.{is_among, unit_last, either, either_first, either_last}
use Rattle.unit_index.proofs.Searches.{pool_at}

-- an active unit's end, and what has one
ends_as : (s : UnitStatus) (u : UnitValue) (now : ℕ) → status_of s ≡ ActiveKind
    → ends_by s u ≡ Some (max u.own_end u.told)
ends_as (Active k) u now e = refl
ends_as Free u now e = absurd (cc)
ends_as FreeBackup u now e = absurd (cc)
ends_as (Expired k) u now e = absurd (cc)
ends_as (Released k) u now e = absurd (cc)

ends_from : (s : UnitStatus) (u : UnitValue) (end : ℕ) → ends_by s u ≡ Some end
    → (status_of s ≡ ActiveKind) × (max u.own_end u.told ≡ end)
ends_from (Active k) u end e = (refl, cc)
ends_from Free u end e = absurd (cc)
ends_from FreeBackup u end e = absurd (cc)
ends_from (Expired k) u end e = absurd (cc)
ends_from (Released k) u end e = absurd (cc)

may_from : (u : UnitValue) (end : ℕ) → ends_by u.status u ≡ Some end → MayExpire end u
may_from u end e = let f = ends_from u.status u end e in let m = f.1 in (f.0, omega (arith, m), omega (arith, m))

-- ---- the first end of some of the units

module _ (b : BookState) where
  abbrev pub IsFirstIn : (Prefix → Type 0) → Option ℕ → Type 0
  IsFirstIn P None = (now : ℕ) (p : Prefix) → P p → IsToExpire b now p → ⊥
  IsFirstIn P (Some end) = ((p : Prefix) × P p × IsToExpire b end p)
      × ((now : ℕ) (p : Prefix) → P p → IsToExpire b now p → end ≤ now)

  first_both : (P Q R : Prefix → Type 0) (x y : Option ℕ) → ((q : Prefix) → P q → R q) → ((q : Prefix) → Q q → R q)
      → ((q : Prefix) → R q → P q ⊎ Q q)
      → IsFirstIn P x → IsFirstIn Q y → IsFirstIn R (earlier x y)
  first_both P Q R None None p q r hx hy =
      λ now z is ends. elim (r z is) [ inl a ↦ hx now z a ends | inr a ↦ hy now z a ends ]
  first_both P Q R None (Some y) p q r hx ((z, here, ends), least) = (
    (z, q z here, ends),
    λ now t is may. elim (r t is) [ inl a ↦ absurd (hx now t a may) | inr a ↦ least now t a may ],
  )
  first_both P Q R (Some x) None p q r ((z, here, ends), least) hy = (
    (z, p z here, ends),
    λ now t is may. elim (r t is) [ inl a ↦ least now t a may | inr a ↦ absurd (hy now t a may) ],
  )
  first_both P Q R (Some x) (Some y) p q r ((z, here, ends), least) ((v, there, stops), last) = (
    by_test (nat_le x y) refl,
    λ now t is may. elim (r t is) [
      | inl a ↦ (let low = least now t a may in omega (arith, low))
      | inr a ↦ (let low = last now t a may in omega (arith, low))
    ],
  ) where
    by_test : (t : Bool) → nat_le x y ≡ t → (w : Prefix) × R w × IsToExpire b (min x y) w
    by_test true e =
        let low : x ≤ y = grind (arith, nat_tests) in
        let same : min x y ≡ x = omega (arith, low) in
        (z, p z here, subst (λ (n : ℕ). IsToExpire b n z) (sym same) ends)
    by_test false e =
        let low : y < x = grind (arith, nat_tests) in
        let same : min x y ≡ y = omega (arith, low) in
        (v, q v there, subst (λ (n : ℕ). IsToExpire b n v) (sym same) stops)

  -- the least of a pool's marks tells of its units
  end_at : (c : PoolTree) (now : ℕ) (p : Prefix) → IsPool c.pool → HasKinds b.role b.units c → is_in c.pool p ≡ true
      → IsToExpire b now p
      → (leaf c.chart (index_in c.pool p)).ends ≡ Some (max (b.units p).own_end (b.units p).told)
  end_at c now p good marked inside (unit, may) =
      ap (λ (m : UnitKinds). m.ends) (marked.each (index_in c.pool p) p (stands_at c.pool p good unit.whole inside))
      ∙ ends_as (b.units p).status (b.units p) now may.0

  place_below : (c : PoolTree) (p : Prefix) → IsKindTreeOf c.pool c.chart.levels → is_in c.pool p ≡ true
      → index_in c.pool p < 2 ^ c.chart.levels
  place_below c p whole inside = let lt = index_below c.pool p whole.legal (within c.pool p inside) in
      omega (arith, lt, whole.whole)

  ends_in : (c : PoolTree) (o : Option ℕ) → IsKindTreeOf c.pool c.chart.levels → HasKinds b.role b.units c
      → ((p : Prefix) → is_in c.pool p ≡ true → is_unit b.pools p ≡ true) → IsLeastEnd c.chart o
      → IsFirstIn (λ p. is_in c.pool p ≡ true) o
  ends_in c None whole marked units least = λ now p inside may. (
      let there = end_at c now p whole.legal marked inside may in
      let out = least (index_in c.pool p) (place_below c p whole inside) in
      absurd (cc))
  ends_in c (Some end) whole marked units ((k, lt, is), least) = (
    (
        let p = placed c.pool k in
        let at = unit_placed_at c.pool k p whole.legal (omega (arith, lt, whole.whole)) refl in
        let has : ends_by (b.units p).status (b.units p) ≡ Some end =
        sym (ap (λ (m : UnitKinds). m.ends) (marked.each k p at)) ∙ is in
        (p, at.within, (record { whole = at.whole; unit = units p at.within }, may_from (b.units p) end has))),
    λ now p inside may. (
        let low = least (index_in c.pool p) (max (b.units p).own_end (b.units p).told) (place_below c p whole inside)
        (end_at c now p whole.legal marked inside may) in
        let own = may.1.1 in
        let told = may.1.2 in
        omega (arith, low, own, told)),
  )

  -- ---- pool behind pool

  abbrev Among : List Pool → ℕ → Prefix → Type 0
  Among pools i p = is_unit (take i pools) p ≡ true

  pub record IsFirstSo (pools : List Pool) (i : ℕ) (o : Option ℕ) : Type 0 where
    pub first : IsFirstIn (Among pools i) o

  pub first_at_first : (pools : List Pool) → IsFirstSo pools 0 None
  first_at_first pools = record { first = λ now p there may. absurd (cc) }

  pub first_further : (charts : List PoolTree) (i : ℕ) (c : PoolTree) (x y : Option ℕ) → b.pools ≡ pools_of charts
      → i < length charts → c ≡ get_or charts i c
      → IsKindTreeOf c.pool c.chart.levels → HasKinds b.role b.units c → IsFirstSo (pools_of charts) i x
      → IsLeastEnd c.chart y → IsFirstSo (pools_of charts) (i + 1) (earlier x y)
  first_further charts i c x y same lt is whole marked so least = record {
    first = first_both (Among (pools_of charts) i) (λ p. is_in c.pool p ≡ true) (Among (pools_of charts) (i + 1)) x y
        (λ q h. units q ∙ either_first (is_unit (take i (pools_of charts)) q) (is_in c.pool q) h)
        (λ q h. units q ∙ either_last (is_unit (take i (pools_of charts)) q) (is_in c.pool q) h)
        (λ q h. either (is_unit (take i (pools_of charts)) q) (is_in c.pool q) (sym (units q) ∙ h))
        so.first (ends_in c y whole marked there least);
  } where
    below : i < length (pools_of charts)
    below = omega (arith, lt, length-map charts (λ (d : PoolTree). d.pool))

    at : c.pool ≡ get_or (pools_of charts) i c.pool
    at = pool_at charts i c lt is

    longer : take (i + 1) (pools_of charts) ≡ take i (pools_of charts) ++ c.pool ∷ []
    longer = rw (add-one, take-suc (pools_of charts) i c.pool below)
        (ap (λ (k : Pool). take i (pools_of charts) ++ k ∷ []) (sym at))

    units : (q : Prefix) → is_unit (take (i + 1) (pools_of charts)) q
        ≡ (is_unit (take i (pools_of charts)) q || is_in c.pool q)
    units q = ap (λ (ps : List Pool). is_unit ps q) longer ∙ unit_last (take i (pools_of charts)) c.pool q

    there : (p : Prefix) → is_in c.pool p ≡ true → is_unit b.pools p ≡ true
    there p inside = ap (λ (ps : List Pool). is_unit ps p) same ∙ is_among (pools_of charts) i c.pool p below at inside

  pub first_at_last : (charts : List PoolTree) (i : ℕ) (o : Option ℕ) → b.pools ≡ pools_of charts → length charts ≤ i
      → IsFirstSo (pools_of charts) i o → IsFirstExpiry b o
  first_at_last charts i o same le so = by_end o so.first where
    all : take i (pools_of charts) ≡ b.pools
    all = take_all i (pools_of charts) (omega (arith, le, length-map charts (λ (d : PoolTree). d.pool))) ∙ sym same

    among : (p : Prefix) → is_unit b.pools p ≡ true → Among (pools_of charts) i p
    among p unit = ap (λ (ps : List Pool). is_unit ps p) all ∙ unit

    by_end : (x : Option ℕ) → IsFirstIn (Among (pools_of charts) i) x → IsFirstExpiry b x
    by_end None h = λ now p may. h now p (among p may.0.unit) may
    by_end (Some end) ((p, there, may), least) = ((p, may), λ now q is. least now q (among q is.0.unit) is)
