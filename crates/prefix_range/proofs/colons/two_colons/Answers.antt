use Rattle.std.proofs.Common.{◌-◌, arith}
use Rattle.prefix_range.proofs.Neighbours.{cut_at, cut_past}
use Rattle.prefix_range.proofs.colons.two_colons.Goals as goal

pub returns-then-text-next-eq58-2 : goal.returns-then-text-next-eq58-2
returns-then-text-next-eq58-2 c =
    cut_at c.args.text.now (c.loop-next.next - 1) c.loop-next.next (omega arith)
    (omega arith) c.loop-next.invariant c.if-text-next-eq58.true c.if-text-next-eq58-2.true

pub returns : goal.returns
returns c = cut_past c.args.text.now c.loop-next.next (omega arith) c.loop-next.invariant
