use Rattle.std.proofs.Common.{sym, ◌∙◌, subst}
use Rattle.book_rules.specs.State.{state}
use Rattle.unit_index.specs.PoolTrees.{AreTreesOf}
use Rattle.unit_index.proofs.PoolCharts.{lent_whole}
use Rattle.unit_index.proofs.Registers.{follows_one, follows_none}
use Rattle.unit_index.proofs.unit_index.UnitIndex.enter.Goals as goal

pub invariant_of-self-in-Some : goal.invariant_of-self-in-Some
invariant_of-self-in-Some c =
    let whole = lent_whole c.follow.new.charts c.args.self.now.charts.items c.args.self.now.charts.len
    (c.follow.ensures.count ∙ c.deref_mut.ensures.len) in
    let was = subst (AreTreesOf (state c.args.self.now.table)) (sym c.deref_mut.ensures.value) c.args.self.now.followed
    in
    record {
      followed = subst (AreTreesOf (state c.enter.new.table)) (sym whole)
          (follows_one _ _ c.args.line.now c.in-Some.prefix c.unit_or_fresh-unit.result c.role.result
          c.deref_mut.result.now c.follow.new.charts c.in_ok-enter.ensures.entered c.requires.pools
          (sym c.subject_of.ensures ∙ c.in-Some.is)
          c.unit_or_fresh-unit.ensures.unit c.role.ensures c.follow.ensures.pools c.follow.ensures.follows was);
      held = c.enter.ensures.held c.args.self.now.held;
    }

pub invariant_of-self-in_default : goal.invariant_of-self-in_default
invariant_of-self-in_default c = record {
  followed =
      follows_none _ _ c.args.line.now _ c.in_ok-enter.ensures.entered c.requires.pools (sym c.subject_of.ensures
      ∙ c.in_default.is) c.args.self.now.followed;
  held = c.enter.ensures.held c.args.self.now.held;
}
