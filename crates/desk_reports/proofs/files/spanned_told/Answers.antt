use Rattle.std.proofs.Common.{refl, sym, subst, List, ℕ}
use Rattle.std.specs.Prelude.{IsOkAnd}
use Rattle.desk_reports.specs.Behind.{IsBehindNotes, files_note}
use Rattle.desk_reports.specs.OverFiles.{IsHolderAccess, IsSpannedReport}
use Rattle.desk_reports.proofs.OverFileLaws.{spanned_report}
use Rattle.desk_reports.proofs.PageTexts.{mapped}
use Rattle.desk_reports.proofs.files.spanned_told.Goals as goal

pub returns : goal.returns
returns g c =
    let says = g.F.AccessTexts.says c.args.files.now in
    let a = c.args.answered in
    mapped (λ noted. IsOkAnd c.reply_told-told.result
    (λ core. IsBehindNotes (files_note c.args.names.now a.pair a.spans) core noted))
    (IsSpannedReport c.args.names.now says a c.args.query.now c.args.settings c.args.style.now)
    c.noted_over.result c.noted_over.ensures.told
    (λ noted behind. spanned_report c.args.names.now says a c.args.query.now c.args.settings c.args.style.now _
    c.reply_told-told.result noted c.reply_told-told.ensures (record {
      primary = c.in_ok-read.ensures.first;
      secondary = c.in_ok-read.ensures.second;
      volumes = refl;
      origins = refl;
      access = subst (λ (text : List ℕ). IsHolderAccess says a.pair a.spans a.answer text) (sym c.deref.ensures.value)
          c.in_ok-access.ensures;
      rule = refl;
    }) behind)
