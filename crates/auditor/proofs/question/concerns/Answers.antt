use Rattle.std.proofs.Common.{sym, ◌∙◌, ap}
use Rattle.auditor.specs.Passing.{concerns}
use Rattle.auditor.proofs.Given.{overlap_tested}
use Rattle.auditor.proofs.question.concerns.Goals as goal

pub returns-in-Grant : goal.returns-in-Grant
returns-in-Grant c = overlap_tested _ _ _ c.overlaps.ensures ∙ ap (concerns c.args.prefix.now) (sym c.in-Grant.is)

pub returns-in-Carry : goal.returns-in-Carry
returns-in-Carry c = overlap_tested _ _ _ c.overlaps-in-Carry.ensures
    ∙ ap (concerns c.args.prefix.now) (sym c.in-Carry.is)

pub returns-in-Release : goal.returns-in-Release
returns-in-Release c = overlap_tested _ _ _ c.overlaps-in-Release.ensures
    ∙ ap (concerns c.args.prefix.now) (sym c.in-Release.is)
