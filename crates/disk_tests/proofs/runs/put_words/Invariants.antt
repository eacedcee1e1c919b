use Rattle.disk_model.specs.Open.{IsOpen}
use Rattle.disk_tests.proofs.runs.put_words.Given as goal

abbrev pub invariant-loop-batch : goal.invariant-loop-batch
invariant-loop-batch l = IsOpen l.file.device
