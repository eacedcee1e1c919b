use Rattle.std.proofs.Common.{arith}
use Rattle.evidence_search.proofs.Holders.{past_closing}
use Rattle.evidence_search.proofs.holder.find_holder.Goals as goal

pub returns-then-milliseconds-clause-none : goal.returns-then-milliseconds-clause-none
returns-then-milliseconds-clause-none g c _ =
    let at = c.milliseconds.ensures.value in
    let closed = c.milliseconds-2.ensures.value in
    let past = c.if-milliseconds.true in
    past_closing (g.S.Lines.journals c.args.source.now) c.args.query.now c.close_reading-closed.result
    c.close_reading-closed.ensures (omega arith)
