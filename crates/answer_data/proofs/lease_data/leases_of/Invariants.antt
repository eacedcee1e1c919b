use Rattle.std.proofs.Common.{take}
use Rattle.answer_data.proofs.MoreLeases.{AreLeasesSoFar}
use Rattle.answer_data.proofs.lease_data.leases_of.Given as goal

abbrev pub invariant-loop-lease : goal.invariant-loop-lease
invariant-loop-lease l = AreLeasesSoFar l.query (take l.lease-index l.leases) l.values.items
