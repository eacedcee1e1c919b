use Rattle.archive_files.specs.Telling.{AreTold}
use Rattle.archive_files.proofs.cataloguing.classify_all.Given as goal

abbrev pub invariant-loop-file : goal.invariant-loop-file
invariant-loop-file g l = AreTold (g.F.JournalFiles.had l.files) l.file l.volumes.items l.passed_over.items
