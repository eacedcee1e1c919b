use Rattle.std.proofs.Common.{◌≡◌, drop}
use Rattle.attribution_desk.specs.Batch.{status_of_all}
use Rattle.attribution_desk.proofs.batch.status_of_all.Given as goal

abbrev pub invariant-loop-ruling : goal.invariant-loop-ruling
invariant-loop-ruling l = status_of_all (drop l.ruling-index l.rulings) ≡ status_of_all l.rulings
