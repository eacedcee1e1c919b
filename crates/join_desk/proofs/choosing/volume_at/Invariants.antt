use Rattle.std.proofs.Common.{length}
use Rattle.join_desk.proofs.Rows.{IsRest}
use Rattle.join_desk.proofs.choosing.volume_at.Given as goal

abbrev pub invariant-loop-rest : goal.invariant-loop-rest
invariant-loop-rest l = IsRest l.volumes l.number l.rest

abbrev pub decreases-loop-rest : goal.decreases-loop-rest
decreases-loop-rest l = length l.rest
