use Rattle.std.specs.Prelude.{◌≡◌, ◌++◌}
use Rattle.std.proofs.Common.{drop}
use Rattle.attribution_desk.specs.Claims.{texts_of}
use Rattle.archive_desk.specs.Waiting.{texts_among}
use Rattle.archive_desk.proofs.waiting.claims_of.Given as goal

abbrev pub invariant-loop-member : goal.invariant-loop-member
invariant-loop-member l = texts_of l.claims.items ++ texts_among (drop l.member-index l.members) ≡ texts_among l.members
