use Rattle.std.specs.Prelude.{List, ◌++◌, drop}
use Rattle.joined_evidence.specs.declared.stretches.SpannedStretch.{SpannedStretch}
use Rattle.joined_evidence.specs.Stretches.{AreStretches}
use Rattle.joined_evidence.proofs.stretches.found_over.Given as goal

-- what is found of the spans that are left, behind what was found, is what is found of all
abbrev pub invariant-loop-span : goal.invariant-loop-span
invariant-loop-span g l = (more : List SpannedStretch)
    → AreStretches (g.F.JournalFiles.had l.files) l.archive l.query (drop l.span-index l.spans) more
    → AreStretches (g.F.JournalFiles.had l.files) l.archive l.query l.spans (l.stretches.items ++ more)
