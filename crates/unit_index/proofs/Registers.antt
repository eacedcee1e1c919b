-- How the charts of a table's pools follow its lines.
use Rattle.std.proofs.Common.{◌≡◌, ◌+◌, false, List, ap, sym, ◌∙◌, subst, arith, Option, Some, None}
use Rattle.std.specs.Prelude.{All}
use Rattle.std.proofs.lemmas.Bool.Decides.{nat_tests}
use Rattle.prefix_range.specs.Prefix.{Prefix}
use Rattle.binding_rules.specs.declared.role.Role.{Role}
use Rattle.binding_rules.specs.declared.unit.Unit.{Unit as UnitValue}
use Rattle.journal_lines.specs.declared.line.Line.{Line}
use Rattle.book_state.specs.Book.{BookState}
use Rattle.book_state.specs.Effects.{after, same_prefix}
use Rattle.unit_index.specs.declared.pool_tree.PoolTree.{PoolTree}
use Rattle.unit_index.specs.PoolTrees.{HasKinds, with_unit_at, pools_of, AreTreesOf}
use Rattle.unit_index.specs.Subjects.{subject_of, IsAway, KeepsPools}
use Rattle.unit_index.proofs.PoolCharts.{all_same}
use Rattle.unit_index.proofs.Subjects.{after_away, one_changes, none_changes, IsAsWas}

-- another prefix than this one
elsewhere : Prefix → Prefix
elsewhere p = record { address = p.address + 1; length = p.length }

is_elsewhere : (p : Prefix) → same_prefix (elsewhere p) p ≡ false
unfolding elsewhere
is_elsewhere p = grind (arith, nat_tests)

pub away_from : (o : Option Prefix) → Prefix
away_from None = record { address = 0; length = 0 }
away_from (Some p) = elsewhere p

is_away : (o : Option Prefix) → IsAway o (away_from o)
unfolding away_from
is_away None = tt
is_away (Some p) = is_elsewhere p

pub as_it_was : (b c : BookState) (l : Line) → c ≡ after b l → KeepsPools l.event
    → IsAsWas b c (away_from (subject_of l.event))
as_it_was b c l is keeps = after_away b c l (away_from (subject_of l.event)) is keeps (is_away (subject_of l.event))

-- the marks are those of the units behind the line, once the one that it is about is noted
pub follows_one : (b c : BookState) (l : Line) (p : Prefix) (u : UnitValue) (role : Role) (cs ds : List PoolTree)
    → c ≡ after b l → KeepsPools l.event → subject_of l.event ≡ Some p
    → u ≡ c.units p → role ≡ c.role → pools_of ds ≡ pools_of cs
    → ((units : Prefix → UnitValue) → All (HasKinds role units) cs → All (HasKinds role (with_unit_at units p u)) ds)
    → AreTreesOf b cs → AreTreesOf c ds
follows_one b c l p u role cs ds is keeps about unit whose same notes followed =
    let was = as_it_was b c l is keeps in
    let before : All (HasKinds role b.units) cs =
    subst (λ (r : Role). All (HasKinds r b.units) cs) (sym was.role ∙ sym whose) followed.kinds in
    let noted : All (HasKinds role (with_unit_at b.units p u)) ds = notes b.units before in
    let units : (q : Prefix) → with_unit_at b.units p u q ≡ c.units q =
    λ q. ap (λ (x : UnitValue). with_unit_at b.units p x q) unit ∙ sym (one_changes b c l p is keeps about q) in
    record {
      pools = same ∙ (followed.pools ∙ sym was.pools);
      kinds = subst (λ (r : Role). All (HasKinds r c.units) ds) whose
          (all_same role (with_unit_at b.units p u) c.units ds units noted);
    }

-- a line that is about no unit leaves them
pub follows_none : (b c : BookState) (l : Line) (cs : List PoolTree) → c ≡ after b l → KeepsPools l.event
    → subject_of l.event ≡ None → AreTreesOf b cs → AreTreesOf c cs
follows_none b c l cs is keeps about followed =
    let was = as_it_was b c l is keeps in
    record {
      pools = followed.pools ∙ sym was.pools;
      kinds = subst (λ (r : Role). All (HasKinds r c.units) cs) (sym was.role)
          (all_same b.role b.units c.units cs (λ q. sym (none_changes b c l is keeps about q)) followed.kinds);
    }
