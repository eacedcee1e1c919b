use Rattle.failover_session.specs.Receipts.{Goes}
use Rattle.node_threads.proofs.Turning.{HasMade}
use Rattle.node_threads.proofs.workers.serve_datagrams.Given as goal

abbrev pub invariant-loop-received : goal.invariant-loop-received
invariant-loop-received g l = record {
  goes : Goes l.initial.pass.receipts l.pass.receipts;
  made : HasMade g.M.Mailbox.receives g.M.Mailbox.sends g.M.Mailbox.fails l.fn.partner l.own l.received
      l.initial.mailbox l.mailbox l.initial.pass.receipts l.pass.receipts;
}
