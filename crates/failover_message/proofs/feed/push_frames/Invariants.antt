use Rattle.std.proofs.Common.{length}
use Rattle.failover_message.proofs.StreamLaws.{Pushed}
use Rattle.failover_message.proofs.feed.push_frames.Given as goal

abbrev pub invariant-loop-frame : goal.invariant-loop-frame
invariant-loop-frame l = Pushed l.fn.frames.items l.stream l.frames.items l.rest

abbrev pub decreases-loop-frame : goal.decreases-loop-frame
decreases-loop-frame l = length l.rest
