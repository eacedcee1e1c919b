use Rattle.std.proofs.Common.{drop}
use Rattle.archive_desk.specs.Certificates.{AreSaid}
use Rattle.archive_desk.specs.CommandOutputs.{Said, said_of, noted_first}
use Rattle.archive_desk.proofs.judged_telling.tell_all.Given as goal

-- what is told of the certificates that are left, behind what was told, is what is told of all
abbrev pub invariant-loop-judged : goal.invariant-loop-judged
invariant-loop-judged l = (after : Said)
    → AreSaid l.names (drop l.judged-index l.all) (said_of l.told) after
    → AreSaid l.names l.all (noted_first l.fn.warnings.items) after
