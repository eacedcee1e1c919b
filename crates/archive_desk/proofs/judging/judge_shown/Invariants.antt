use Rattle.std.specs.Prelude.{◌≡◌}
use Rattle.archive_desk.specs.Waiting.{AreWaiting, texts_waiting}
use Rattle.archive_desk.proofs.judging.judge_shown.Given as goal

abbrev pub invariant-loop-i : goal.invariant-loop-i
invariant-loop-i g l =
    (texts_waiting l.waiting ≡ texts_waiting l.fn.waiting)
    × AreWaiting (g.F.JournalFiles.had l.files) l.archive l.bounds.skew l.bounds.transit l.waiting
