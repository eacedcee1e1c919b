use Rattle.std.proofs.Common.{◌+◌, sym, subst}
use Rattle.std.specs.BTreeSet.{contains}
use Rattle.pair_world.specs.Holders.{client_cmp, IsNoted}
use Rattle.pair_world.proofs.HolderLaws.{noted_on, noted_add}
use Rattle.pair_world.proofs.world.World.found.Goals as goal
use Rattle.pair_world.proofs.world.World.found.Goals.{in-Some+in_ok-insert-in-Some, in-None}

pub loop-index-preserved : goal.loop-index-preserved
loop-index-preserved c = elim c.match-held_by.branch [
  | in-Some+in_ok-insert-in-Some w ↦ subst
      (λ s. IsNoted c.args.self.now c.args.prefix.now (c.loop-index.index + 1) (contains client_cmp s)) (sym w.found-is)
      (noted_add c.args.self.now c.args.prefix.now c.loop-index.index c.loop-index.found w.insert.new.self
      w.in-Some.client w.in-Some.ensures w.in_ok-insert-in-Some.ensures.updates c.loop-index.invariant)
  | in-None w ↦ subst (λ s. IsNoted c.args.self.now c.args.prefix.now (c.loop-index.index + 1) (contains client_cmp s))
      (sym w.found-is)
      (noted_on c.args.self.now c.args.prefix.now c.loop-index.index
      (contains client_cmp c.loop-index.found) w.in-None.ensures c.loop-index.invariant)
]
