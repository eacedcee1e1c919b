use Rattle.failover_session.proofs.Last.{found_sent, found_base, passed_sent}
use Rattle.failover_session.proofs.sent_state.last_sent.Goals as goal

pub returns-in-Send : goal.returns-in-Send
returns-in-Send c =
    found_sent c.args.receipts.now c.loop-index.index c.index-receipts-index.result c.loop-index-test.true
    c.loop-index.auto.index c.loop-index.invariant c.in-Send.message c.in-Send.is

pub returns-in-Base : goal.returns-in-Base
returns-in-Base c =
    found_base c.args.receipts.now c.loop-index.index c.index-receipts-index.result c.loop-index-test.true
    c.loop-index.auto.index c.loop-index.invariant c.in-Base.numbers c.in-Base.is

pub loop-index-preserved : goal.loop-index-preserved
loop-index-preserved c =
    passed_sent c.args.receipts.now c.loop-index.index c.index-receipts-index.result c.loop-index-test.true
    c.loop-index.auto.index c.loop-index.invariant c.in_default.not-Send c.in_default.not-Base
