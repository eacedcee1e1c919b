use Rattle.std.proofs.Common.{arith}
use Rattle.join_desk.proofs.Rows.{missing}
use Rattle.join_desk.proofs.choosing.row_of.Goals as goal

pub returns-in-None : goal.returns-in-None
returns-in-None c =
    let test = c.loop-number-test.true in
    missing c.args.volumes.now c.args.from c.args.to c.loop-number.number c.loop-number.chosen.items
    c.loop-number.invariant.0 c.loop-number.invariant.1 (omega arith) (c.volume_at.ensures.none c.in-None.is)
