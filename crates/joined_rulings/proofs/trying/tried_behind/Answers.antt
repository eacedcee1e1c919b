use Rattle.std.specs.Prelude.{Option}
use Rattle.std.proofs.Common.{subst}
use Rattle.volume_spans.specs.declared.spans.ReadSpans.{ReadSpans}
use Rattle.joined_rulings.specs.Trying.{AreShownSpans}
use Rattle.joined_rulings.proofs.Trials.{behind_so}
use Rattle.joined_rulings.proofs.trying.tried_behind.Goals as goal

pub returns-in-Some : goal.returns-in-Some
returns-in-Some g c =
    let had = g.F.JournalFiles.had c.args.files.now in
    behind_so had c.args.archive.now c.args.spans.now c.args.query.now c.args.claim.now c.in-Some.read
    (subst (λ (o : Option ReadSpans). AreShownSpans had c.args.archive.now c.args.query.now o) c.in-Some.is
    c.in_ok-read.ensures) c.tried_within.result c.tried_within.ensures
