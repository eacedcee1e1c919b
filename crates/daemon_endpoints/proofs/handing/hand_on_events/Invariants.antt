use Rattle.daemon_endpoints.specs.Receiving.{HasSameFiles}
use Rattle.daemon_endpoints.proofs.handing.hand_on_events.Given as goal

abbrev pub invariant-loop-event : goal.invariant-loop-event
invariant-loop-event g l = HasSameFiles l.initial.running l.running
