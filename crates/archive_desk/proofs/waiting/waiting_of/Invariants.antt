use Rattle.std.specs.Prelude.{◌≡◌, ◌++◌}
use Rattle.std.proofs.Common.{drop}
use Rattle.attribution_desk.specs.Claims.{texts_of}
use Rattle.archive_desk.specs.Waiting.{ArePlaced, texts_waiting}
use Rattle.archive_desk.proofs.waiting.waiting_of.Given as goal

abbrev pub invariant-loop-claim : goal.invariant-loop-claim
invariant-loop-claim l =
    (texts_waiting l.waiting.items ++ texts_of (drop l.claim-index l.claims) ≡ texts_of l.claims)
    × ArePlaced l.archive l.bounds.skew l.bounds.transit l.waiting.items
