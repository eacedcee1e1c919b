use Rattle.disk_tests.proofs.Fronts.{stays_in_front}
use Rattle.disk_tests.proofs.writing.put_batch.Goals as goal

pub loop-turn-preserved : goal.loop-turn-preserved
loop-turn-preserved g c = stays_in_front _ c.loop-turn.book _ _ c.loop-turn.invariant c.in_ok-ask.ensures
