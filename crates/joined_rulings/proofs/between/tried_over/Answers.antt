use Rattle.std.proofs.Common.{subst}
use Rattle.volume_spans.specs.declared.spans.GivenSpans.{GivenSpans}
use Rattle.volume_spans.specs.Spans.{AreGiven}
use Rattle.joined_rulings.proofs.Trials.{over_so}
use Rattle.joined_rulings.proofs.between.tried_over.Goals as goal

pub returns-in-Read : goal.returns-in-Read
returns-in-Read g c =
    let had = g.F.JournalFiles.had c.args.files.now in
    over_so had c.args.archive.now c.args.spans.now c.args.query.now c.args.claim.now c.in-Read.read
    (subst (λ (given : GivenSpans). AreGiven had c.args.archive.now c.args.spans.now given) c.in-Read.is
    c.in-Ok.ensures.given) c.answer_by.result c.answer_by.ensures
