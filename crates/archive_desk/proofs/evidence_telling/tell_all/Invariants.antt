use Rattle.std.proofs.Common.{drop}
use Rattle.archive_desk.specs.Telling.{AreSaid}
use Rattle.archive_desk.specs.CommandOutputs.{Said, said_of, nothing}
use Rattle.archive_desk.proofs.evidence_telling.tell_all.Given as goal

-- what is told of the stretches that are left, behind what was told, is what is told of all
abbrev pub invariant-loop-found : goal.invariant-loop-found
invariant-loop-found l = (after : Said)
    → AreSaid l.names (drop l.found-index l.stretches) (said_of l.told) after
    → AreSaid l.names l.stretches nothing after
