use Rattle.std.specs.Prelude.{drop}
use Rattle.archive_desk.specs.CommandOutputs.{Said, said_of, noted_first}
use Rattle.joined_rulings.specs.Telling.{AreRulingsSaid}
use Rattle.joined_rulings.proofs.telling.tell_all.Given as goal

-- what is told of the certificates that are left, behind what was told, is what is told of all
abbrev pub invariant-loop-ruling : goal.invariant-loop-ruling
invariant-loop-ruling l = (after : Said)
    → AreRulingsSaid l.names (drop l.ruling-index l.all) (said_of l.told) after
    → AreRulingsSaid l.names l.all (noted_first l.fn.notes.items) after
