use Rattle.std.proofs.Common.{subst}
use Rattle.joined_answers.specs.declared.starting.MomentSpans.{MomentSpans}
use Rattle.joined_answers.specs.Starting.{AreMomentSpans}
use Rattle.joined_evidence.proofs.Searching.{walked_so}
use Rattle.joined_evidence.proofs.trying.tried_at.Goals as goal

pub returns-in-Read : goal.returns-in-Read
returns-in-Read g c =
    let had = g.F.JournalFiles.had c.args.files.now in
    let h = c.args.moment.now in
    walked_so had c.args.archive.now c.args.query.now h c.in-Read.read
    (subst (λ (m : MomentSpans). AreMomentSpans had c.args.archive.now h.skew h.transit h.at m) c.in-Read.is
    c.in-Ok.ensures.start) c.walked.result c.walked.ensures
