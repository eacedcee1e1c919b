use Rattle.std.specs.Prelude.{List, IfOk}
use Rattle.std.proofs.Common.{subst}
use Rattle.journal_archive.specs.declared.outline.FiledVolume.{FiledVolume}
use Rattle.volume_spans.specs.declared.reading.ReadVolume.{ReadVolume}
use Rattle.volume_spans.specs.declared.reader.GivenSpan.{GivenSpan}
use Rattle.volume_spans.specs.Reading.{IsSpanRead, IsGiven}
use Rattle.journal_copies.specs.Copying.{IsCopyOver}
use Rattle.journal_copies.proofs.Copies.{copy_is}
use Rattle.journal_copies.proofs.copying.copy_of.Goals as goal

pub returns-in-Read-clause-copy : goal.returns-in-Read-clause-copy
returns-in-Read-clause-copy g c =
    let had = g.F.JournalFiles.had c.args.files.now in
    let q = c.args.query.now in
    let s = c.in-Read.read in
    let given = subst (λ (x : GivenSpan). IsGiven had c.shelf_of-shelf.result.now q.span x) c.in-Read.is
    c.in_ok-read.ensures.given in
    let read = subst (λ (vs : List FiledVolume). IsSpanRead had vs s) c.shelf_of-shelf.ensures given.0 in
    copy_is had c.args.archive.now q s c.copied_over.result read given.1
    (subst (λ (rs : List ReadVolume). IfOk c.copied_over.result (IsCopyOver q rs)) c.deref.ensures.value
    c.copied_over.ensures.copied)
