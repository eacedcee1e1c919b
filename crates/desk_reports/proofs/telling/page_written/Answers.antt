use Rattle.std.proofs.Common.{◌≡◌, Option, List, ℕ, subst, sym}
use Rattle.evidence_report.specs.declared.piece_report.PieceReport.{PieceReport}
use Rattle.evidence_report.specs.declared.report.CitedLine.{CitedLine}
use Rattle.desk_reports.specs.Pages.{IsPageText}
use Rattle.desk_reports.specs.Reports.{IsPictureText, IsPageReport, pieces_of}
use Rattle.desk_reports.proofs.PageTexts.{mapped}
use Rattle.desk_reports.proofs.telling.page_written.Goals as goal

pub returns : goal.returns
returns c =
    mapped (λ text. IsPageText c.args.source.now c.args.subject.now c.args.bounds.now c.args.style.now
    c.in_ok-spelling.spelling c.deref.result.now c.pieces_of-pieces.result.now c.cited_of-cited.result.now
    text.items)
    (λ text. IsPageReport c.args.explanation.now c.args.source.now c.args.subject.now c.args.bounds.now c.args.style.now
    text.items) c.page_told.result c.page_told.ensures (λ text is. record {
      spelling = c.in_ok-spelling.spelling;
      spelled = c.in_ok-spelling.ensures;
      picture = c.deref.result.now;
      picture_is = subst (λ (asked : Option ℕ). IsPictureText c.args.explanation.now.report asked c.deref.result.now)
          c.asked_at.ensures (subst (λ (octets : List ℕ). IsPictureText c.args.explanation.now.report c.asked_at.result octets)
          (sym c.deref.ensures.value) c.in_ok-picture.ensures);
      page = subst (λ (cited : List CitedLine). IsPageText c.args.source.now c.args.subject.now c.args.bounds.now
          c.args.style.now c.in_ok-spelling.spelling c.deref.result.now (pieces_of c.args.explanation.now.report) cited
          text.items) c.cited_of-cited.ensures
          (subst (λ (pieces : List PieceReport). IsPageText c.args.source.now c.args.subject.now c.args.bounds.now
          c.args.style.now c.in_ok-spelling.spelling c.deref.result.now pieces c.cited_of-cited.result.now text.items)
          c.pieces_of-pieces.ensures is);
    })
