use Rattle.std.proofs.Common.{subst}
use Rattle.volume_spans.specs.declared.spans.GivenSpans.{GivenSpans}
use Rattle.volume_spans.specs.declared.showing.SpannedJournals.{SpannedJournals}
use Rattle.volume_spans.specs.Spans.{AreGiven}
use Rattle.joined_rulings.specs.Trials.{AreShownBySpans}
use Rattle.joined_rulings.proofs.given.replied.Goals as goal

pub returns-in_ok-ruled-in-Journals : goal.returns-in_ok-ruled-in-Journals
returns-in_ok-ruled-in-Journals g c =
    let had = g.F.JournalFiles.had c.args.files.now in
    let given = subst (λ (s : GivenSpans). AreGiven had c.args.archive.now c.args.spans.now s) c.in-Read.is
    c.in_ok-read.ensures.given in
    (c.in-Read.read, record { read = given.0; given = given.1 }, c.in_ok-ruled-in-Journals.ensures)

pub returns-in-Refused : goal.returns-in-Refused
returns-in-Refused g c =
    let had = g.F.JournalFiles.had c.args.files.now in
    let given = subst (λ (s : GivenSpans). AreGiven had c.args.archive.now c.args.spans.now s) c.in-Read.is
    c.in_ok-read.ensures.given in (
      c.in-Read.read,
      record { read = given.0; given = given.1 },
      subst (λ (s : SpannedJournals). AreShownBySpans c.in-Read.read s) c.in-Refused.is c.in_ok-shown.ensures,
    )
