use Rattle.std.specs.Prelude.{◌≡◌}
use Rattle.archive_desk.specs.Waiting.{AreWaiting, texts_waiting}
use Rattle.archive_desk.specs.Warnings.{AreWarnings}
use Rattle.archive_desk.proofs.judging.judge_each.Given as goal

abbrev pub invariant-loop-place : goal.invariant-loop-place
invariant-loop-place g l =
    (texts_waiting l.waiting ≡ texts_waiting l.fn.waiting)
    × AreWaiting (g.F.JournalFiles.had l.files) l.archive l.bounds.skew l.bounds.transit l.waiting
    × AreWarnings (g.F.JournalFiles.had l.files) l.bounds.skew l.bounds.transit l.warnings.items
