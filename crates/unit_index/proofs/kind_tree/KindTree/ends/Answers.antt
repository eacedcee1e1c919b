use Rattle.std.proofs.Common.{ap, sym, arith}
use Rattle.unit_index.specs.declared.unit_kinds.UnitKinds.{UnitKinds}
use Rattle.std.proofs.lemmas.Nat.{pow_pos}
use Rattle.unit_index.proofs.Charts.{least_of_all, read_at}
use Rattle.unit_index.proofs.kind_tree.KindTree.ends.Goals as goal

pub returns : goal.returns
returns c =
    let whole = c.args.self.now.whole in
    let some = pow_pos c.args.self.now.levels in
    least_of_all c.args.self.now c.index.result.now.ends whole
    (sym (ap (λ (m : UnitKinds). m.ends) (read_at c.args.self.now.nodes.items 1 c.index.result.now
    (omega (arith, whole.whole, some)) c.index.ensures)))
