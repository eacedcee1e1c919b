use Rattle.std.specs.Prelude.{drop}
use Rattle.archive_desk.specs.CommandOutputs.{Said, said_of, noted_first}
use Rattle.joined_evidence.specs.Telling.{AreStretchesSaid}
use Rattle.joined_evidence.proofs.telling.tell_all.Given as goal

-- what is told of the stretches that are left, behind what was told, is what is told of all
abbrev pub invariant-loop-stretch : goal.invariant-loop-stretch
invariant-loop-stretch l = (after : Said)
    → AreStretchesSaid l.names (drop l.stretch-index l.all) (said_of l.told) after
    → AreStretchesSaid l.names l.all (noted_first l.fn.notes.items) after
