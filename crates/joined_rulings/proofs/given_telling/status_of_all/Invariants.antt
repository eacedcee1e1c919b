use Rattle.std.proofs.Common.{◌≡◌, length}
use Rattle.attribution_desk.specs.Batch.{status_of_all}
use Rattle.joined_rulings.proofs.given_telling.status_of_all.Given as goal

abbrev pub invariant-loop-rest : goal.invariant-loop-rest
invariant-loop-rest l = status_of_all l.rest ≡ status_of_all l.rulings

abbrev pub decreases-loop-rest : goal.decreases-loop-rest
decreases-loop-rest l = length l.rest
