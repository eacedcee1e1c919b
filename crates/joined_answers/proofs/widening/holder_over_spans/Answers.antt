use Rattle.std.proofs.Common.{◌≡◌, subst}
use Rattle.joined_answers.specs.declared.answer.SpanTry.{SpanTry}
use Rattle.joined_answers.specs.declared.starting.MomentSpans.{MomentSpans}
use Rattle.joined_answers.specs.Answers.{IsSpanTry}
use Rattle.joined_answers.specs.Starting.{AreMomentSpans}
use Rattle.joined_answers.specs.Widening.{IsOverSpans}
use Rattle.joined_answers.proofs.widening.holder_over_spans.Goals as goal

pub returns-in_ok-last-in-Answered-clause-reply : goal.returns-in_ok-last-in-Answered-clause-reply
returns-in_ok-last-in-Answered-clause-reply g c =
    let had = g.F.JournalFiles.had c.args.files.now in
    let q = c.args.query.now in
    let moment = subst (λ (m : MomentSpans). AreMomentSpans had c.args.archive.now q.skew q.transit q.at m) c.in-Read.is
    c.in_ok-read.ensures.start in
    let first = subst (λ (t : SpanTry). IsSpanTry c.in-Read.read q c.args.settings t) c.in-Answered.is
    c.in_ok-first.ensures in
    let widest = c.in_ok-last-in-Answered.ensures.widest in
    (c.in-Read.read, c.in-Answered.first, widest.0, moment, first, widest.1)

pub returns-in_ok-last-in-Answered-clause-over : goal.returns-in_ok-last-in-Answered-clause-over
returns-in_ok-last-in-Answered-clause-over g c =
    λ a e. (
    let same : c.in_ok-last-in-Answered.last ≡ a = cc in
    subst (IsOverSpans (g.F.JournalFiles.had c.args.files.now) c.args.archive.now c.args.query.now c.args.settings)
    same c.in_ok-last-in-Answered.ensures.over)

pub returns-in-Refused-clause-reply : goal.returns-in-Refused-clause-reply
returns-in-Refused-clause-reply g c =
    let had = g.F.JournalFiles.had c.args.files.now in
    let q = c.args.query.now in
    let moment = subst (λ (m : MomentSpans). AreMomentSpans had c.args.archive.now q.skew q.transit q.at m) c.in-Read.is
    c.in_ok-read.ensures.start in (
      c.in-Read.read,
      moment,
      subst (λ (t : SpanTry). IsSpanTry c.in-Read.read q c.args.settings t) c.in-Refused.is c.in_ok-first.ensures,
    )
