use Rattle.std.proofs.Common.{arith, refl, ◌∙◌, ap₂}
use Rattle.unit_index.specs.Kinds.{joined}
use Rattle.unit_index.proofs.Charts.{raised, read_at}
use Rattle.unit_index.proofs.kind_tree.nodes.raise.Goals as goal

pub loop-node-preserved : goal.loop-node-preserved
loop-node-preserved c =
    let inv = c.loop-node.invariant in
    let left = read_at c.loop-node.nodes _ c.index-nodes-node.result
    (omega (arith, inv.same, inv.below, c.requires.whole)) c.index-nodes-node.is in
    let right = read_at c.loop-node.nodes _ c.index-nodes-node-in-loop-node.result
    (omega (arith, inv.same, inv.below, c.requires.whole)) c.index-nodes-node-in-loop-node.is in
    raised _ c.loop-node.nodes c.args.count c.loop-node.node _ c.joined-both.result c.requires.whole
    (omega (arith, c.loop-node-test.true)) refl (c.joined-both.ensures ∙ ap₂ joined left right) inv
