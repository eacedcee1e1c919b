use Rattle.std.proofs.Common.{arith}
use Rattle.plain_search.proofs.Collecting.{more_rise, all_rise}
use Rattle.plain_search.proofs.collected.are_rising.Goals as goal

pub loop-index-preserved : goal.loop-index-preserved
loop-index-preserved c =
    more_rise c.args.lines.now c.loop-index.index c.index-lines-index.result c.index-lines-index-in-loop-index.result
    (omega arith) (omega arith)
    c.index-lines-index.is c.index-lines-index-in-loop-index.is
    (c.is_followed_by.ensures.0 c.if-not-is_followed_by.false) c.loop-index.invariant

pub returns : goal.returns
returns c _ = all_rise c.args.lines.now c.loop-index.index (omega arith) c.loop-index.invariant
