use Rattle.std.proofs.Common.{◌≡◌, ◌++◌, drop}
use Rattle.attribution_desk.specs.Claims.{woven}
use Rattle.attribution_desk.proofs.batch.woven.Given as goal

abbrev pub invariant-loop-fault : goal.invariant-loop-fault
invariant-loop-fault l = l.rulings.items ++ woven (drop l.fault-index l.faults) l.rest ≡ woven l.faults l.ruled
