use Rattle.std.proofs.Common.{◌<◌}
use Rattle.std.specs.Prelude.{IfSome}
use Rattle.journal_heads.specs.Heads.{SaysBounds}
use Rattle.journal_heads.proofs.heads.bounds_said.Given as goal

abbrev pub invariant-loop-file : goal.invariant-loop-file
invariant-loop-file g l = IfSome l.known (λ k. (k.file < g.F.JournalFiles.files l.files)
    × SaysBounds (g.F.JournalFiles.had l.files k.file) k.bounds)
