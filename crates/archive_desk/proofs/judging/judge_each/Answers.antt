use Rattle.std.proofs.Common.{◌∙◌, ap, sym, subst}
use Rattle.archive_desk.specs.Waiting.{AreWaiting, texts_waiting}
use Rattle.archive_desk.specs.Warnings.{AreWarnings}
use Rattle.archive_desk.proofs.Taken.{one_warned}
use Rattle.archive_desk.proofs.judging.judge_each.Goals.{in-Shown+in_ok-text+in_ok-push, in_default}
use Rattle.archive_desk.proofs.judging.judge_each.Goals as goal

pub loop-place-preserved : goal.loop-place-preserved
loop-place-preserved g c =
    let had = g.F.JournalFiles.had c.args.files.now in
    let b = c.args.bounds.now in
    elim c.match-waiting-place.branch [
      | in-Shown+in_ok-text+in_ok-push w ↦ (
        ap texts_waiting w.waiting-is ∙ (w.judge_shown.ensures.texts ∙ c.loop-place.invariant.0),
        subst (AreWaiting had c.args.archive.now b.skew b.transit) (sym w.waiting-is) w.judge_shown.ensures.waiting,
        subst (λ v. AreWarnings had b.skew b.transit v.items) (sym w.warnings-is)
            (one_warned had b.skew b.transit c.loop-place.warnings.items _
            (record { pair = w.in-Shown.pair; text = w.in_ok-text.text }) c.loop-place.invariant.2
            w.in_ok-text.ensures.warnings w.in_ok-push.ensures.items),
      )
      | in_default w ↦ (
        ap texts_waiting w.waiting-is ∙ c.loop-place.invariant.0,
        subst (AreWaiting had c.args.archive.now b.skew b.transit) (sym w.waiting-is) c.loop-place.invariant.1,
        subst (λ v. AreWarnings had b.skew b.transit v.items) (sym w.warnings-is) c.loop-place.invariant.2,
      )
    ]
