use Rattle.std.proofs.Common.{◌≡◌, length}
use Rattle.std.specs.Vec.Iter.{into_iter_items, into_iter_len}
use Rattle.attribution_desk.specs.Claims.{AreRead}
use Rattle.attribution_desk.proofs.Gathering.{GathersOn}
use Rattle.attribution_desk.proofs.certificates.gather.Given as goal

abbrev pub invariant-loop-claim : goal.invariant-loop-claim
invariant-loop-claim l = AreRead (into_iter_items l.claim-iterator)
    × GathersOn (into_iter_items l.initial.claim-iterator) (into_iter_items l.claim-iterator) l.faults.items
    l.certificates.items
    × (into_iter_len l.claim-iterator ≡ length (into_iter_items l.claim-iterator))
