use Rattle.std.proofs.Common.{arith}
use Rattle.journal_paths.proofs.Counted.{one_more}
use Rattle.journal_paths.proofs.synced_lines.first_lines.Goals as goal

pub loop-end-preserved : goal.loop-end-preserved
loop-end-preserved c =
    let some = c.if-left-eq0.false in
    one_more c.args.text.now c.args.count c.loop-end.end c.loop-end.left c.left_behind-left.result
    c.loop-end-test.true c.loop-end.invariant (omega arith) c.left_behind-left.ensures
