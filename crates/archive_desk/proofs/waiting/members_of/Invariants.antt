use Rattle.archive_desk.specs.Waiting.{AreMembers}
use Rattle.archive_desk.proofs.waiting.members_of.Given as goal

abbrev pub invariant-loop-place : goal.invariant-loop-place
invariant-loop-place l = AreMembers l.waiting l.pair l.members.items
