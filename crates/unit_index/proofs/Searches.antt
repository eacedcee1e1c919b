-- A search by marks misses none.
use Rattle.std.proofs.Common.{◌≡◌, ◌≢◌, ℕ, ◌^◌, ◌<◌, ◌≤◌, true, false, List, [], ◌∷◌, length, get_or, zero, suc, ap}
use Rattle.std.proofs.Common.{◌∙◌, refl, inl, inr, arith, Option, Some, None}
use Rattle.std.specs.Prelude.{is_some, not}
use Rattle.std.proofs.lemmas.Bool.Decides.{nat_tests}
use Rattle.prefix_range.specs.Prefix.{Prefix}
use Rattle.binding_rules.specs.declared.unit.UnitStatus.{UnitStatus}
use Rattle.binding_rules.specs.declared.unit.UnitStatus.TheVariants.{Free, FreeBackup, Active, Expired, Released}
use Rattle.binding_rules.specs.declared.unit.Unit.{Unit as UnitValue}
use Rattle.binding_rules.specs.declared.update.Status.TheVariants.{Active as ActiveKind}
use Rattle.binding_rules.specs.Unit.{status_of}
use Rattle.binding_rules.specs.Giving.{is_own}
use Rattle.book_state.specs.Book.{BookState}
use Rattle.book_state.specs.Places.{IsPool, index_in}
use Rattle.book_rules.specs.UnitRules.{IsSeizable}
use Rattle.book_state.proofs.Ranges.{within, index_below}
use Rattle.unit_index.specs.declared.searching.UnitQuery.{UnitQuery}
use Rattle.unit_index.specs.declared.searching.UnitQuery.TheVariants.{Usable, Expirable, Seizable, Pending, Due, Marked}
use Rattle.unit_index.specs.declared.searching.UnitQuery.TheVariants.{Overcounted}
use Rattle.unit_index.specs.declared.pool_tree.PoolTree.{PoolTree}
use Rattle.unit_index.specs.Kinds.{kinds_of, ends_by, is_by, may_be}
use Rattle.unit_index.specs.KindTrees.{leaf, IsFree}
use Rattle.unit_index.specs.KindTreeForms.{IsKindTreeOf}
use Rattle.unit_index.specs.PoolTrees.{HasKinds, pools_of}
use Rattle.unit_index.specs.Searching.{MatchesQuery, IsThereIn}
use Rattle.unit_index.proofs.LeastUnits.{NoneBefore}
use Rattle.unit_index.proofs.Charts.{side_of}
use Rattle.unit_index.proofs.PoolCharts.{stands_at}

some_of : {X : Type 0} (o : Option X) → o ≢ None → is_some o ≡ true
some_of None ne = absurd (ne refl)
some_of (Some x) ne = refl

ends_soon : (now : ℕ) (s : UnitStatus) (u : UnitValue) → status_of s ≡ ActiveKind → u.own_end ≤ now → u.told ≤ now
    → is_by now (ends_by s u) ≡ true
ends_soon now (Active k) u e own told = grind (arith, nat_tests)
ends_soon now Free u e own told = absurd (cc)
ends_soon now FreeBackup u e own told = absurd (cc)
ends_soon now (Expired k) u e own told = absurd (cc)
ends_soon now (Released k) u e own told = absurd (cc)

seized_is_none : (b : BookState) (now : ℕ) (u : UnitValue) (down : Option ℕ) → IsSeizable b now u down
    → is_own b.role u.status ≡ false
seized_is_none b now u None is = absurd is
seized_is_none b now u (Some d) is = is.0

-- what is wanted is of that kind
pub covers : (b : BookState) (w : UnitQuery) (u : UnitValue) → MatchesQuery b w u → may_be w (kinds_of b.role u) ≡ true
covers b Usable u is = is
covers b (Expirable now) u is = ends_soon now u.status u is.0 is.1 is.2
covers b (Seizable now) u is = ap not (seized_is_none b now u b.down is)
covers b Pending u is = some_of u.pending is
covers b Due u is = some_of u.due is
covers b Marked u is = is
covers b Overcounted u is = refl

-- none is there up to where a search by marks comes
pub none_passed : (b : BookState) (w : UnitQuery) (from place end : ℕ) (c : PoolTree) → IsPool c.pool
    → HasKinds b.role b.units c → IsFree w c.chart place 0 end
    → NoneBefore b w from c.pool place → NoneBefore b w from c.pool end
none_passed b w from place end c good marked free none =
    record {
      each = λ q there. elim (side_of (index_in c.pool q) end) [
        | inl lt ↦ absurd (missed q there lt)
        | inr ge ↦ ge
      ];
    } where
      missed : (q : Prefix) → IsThereIn b w from c.pool q → index_in c.pool q < end → ⊥
      missed q there lt =
          let wanted : may_be w (kinds_of b.role (b.units q)) ≡ true = covers b w (b.units q) there.1.1 in
          let mark = marked.each (index_in c.pool q) q (stands_at c.pool q good there.1.0.whole there.0) in
          let no = free.each (index_in c.pool q) (none.each q there) (omega arith) lt in
          let yes : may_be w (leaf c.chart (index_in c.pool q)) ≡ true = ap (may_be w) mark ∙ wanted in
          absurd (cc)

pub none_in_pool : (b : BookState) (w : UnitQuery) (from place : ℕ) (c : PoolTree) → IsKindTreeOf c.pool c.chart.levels
    → HasKinds b.role b.units c
    → IsFree w c.chart place 0 (2 ^ c.chart.levels) → NoneBefore b w from c.pool place → (q : Prefix)
    → IsThereIn b w from c.pool q → ⊥
none_in_pool b w from place c whole marked free none q there =
    let past = none_passed b w from place (2 ^ c.chart.levels) c whole.legal marked free none in
    let le = past.each q there in
    let lt = index_below c.pool q whole.legal (within c.pool q there.0) in
    omega (arith, le, lt, whole.whole)

-- the pools of charts, one by one
pub pool_at : (cs : List PoolTree) (i : ℕ) (c : PoolTree) → i < length cs → c ≡ get_or cs i c
    → c.pool ≡ get_or (pools_of cs) i c.pool
pool_at [] i c lt is = absurd (omega arith)
pool_at (x ∷ xs) zero c lt is = ap (λ (d : PoolTree). d.pool) is
pool_at (x ∷ xs) (suc i) c lt is = pool_at xs i c (omega arith) is
