use Rattle.failover_session.proofs.Last.{found, passed}
use Rattle.failover_session.proofs.sent_state.last_taken.Goals as goal

pub returns-in-Take : goal.returns-in-Take
returns-in-Take c =
    found c.args.receipts.now c.loop-index.index c.index-receipts-index.result c.loop-index-test.true
    c.loop-index.auto.index c.loop-index.invariant c.in-Take.message c.in-Take.is

pub loop-index-preserved : goal.loop-index-preserved
loop-index-preserved c =
    passed c.args.receipts.now c.loop-index.index c.index-receipts-index.result c.loop-index-test.true
    c.loop-index.auto.index c.loop-index.invariant c.in_default.not-Take
