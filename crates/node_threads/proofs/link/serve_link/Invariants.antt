use Rattle.std.specs.Prelude.{◌≡◌, []}
use Rattle.failover_session.specs.OutboundFrames.{opening}
use Rattle.failover_session.specs.Receipts.{Goes}
use Rattle.failover_session.specs.Sessions.{met_at, Unmet}
use Rattle.node_threads.specs.Reading.{HeardAll}
use Rattle.node_threads.specs.Writing.{HasTold}
use Rattle.node_threads.proofs.link.serve_link.Given as goal

abbrev pub invariant-loop : goal.invariant-loop
invariant-loop g l = record {
  can_next : (goal.iterator-loop g).can_next l.iterator';
  is_finite : (goal.iterator-loop g).is_finite l.iterator';
  told : HasTold g.W.Wire.brings g.W.Wire.writes (HeardAll l.talk.held) l.fn.settings.role
      (opening l.fn.settings.role l.fn.pass.receipts) Unmet (met_at l.talk.stage) l.fn.pass.receipts l.pass.receipts
      l.fn.wire l.wire;
  none : l.talk.handed ≡ [];
  goes : Goes l.fn.pass.receipts l.pass.receipts;
}
