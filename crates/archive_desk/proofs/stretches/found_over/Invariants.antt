use Rattle.std.specs.Prelude.{List, ◌++◌}
use Rattle.std.proofs.Common.{drop}
use Rattle.archive_desk.specs.declared.stretches.FoundStretch.{FoundStretch}
use Rattle.archive_desk.specs.Stretches.{AreStretches}
use Rattle.archive_desk.proofs.stretches.found_over.Given as goal

-- what is found of the spans that are left, behind what was found, is what is found of all
abbrev pub invariant-loop-span : goal.invariant-loop-span
invariant-loop-span g l = (more : List FoundStretch)
    → AreStretches (g.F.JournalFiles.had l.files) l.archive l.query (drop l.span-index l.spans) more
    → AreStretches (g.F.JournalFiles.had l.files) l.archive l.query l.spans (l.stretches.items ++ more)
