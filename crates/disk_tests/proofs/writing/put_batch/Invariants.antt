use Rattle.disk_tests.proofs.Fronts.{HasFront}
use Rattle.disk_tests.proofs.writing.put_batch.Given as goal

abbrev pub invariant-loop-turn : goal.invariant-loop-turn
invariant-loop-turn g l = HasFront (g.D.Device.calls l.file.device) l.book l.lines
