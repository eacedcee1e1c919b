use Rattle.std.proofs.Common.{[], subst}
use Rattle.archive_desk.specs.declared.coverage_gaps.TimingBounds.{TimingBounds}
use Rattle.desk_reports.specs.Pages.{IsPageText}
use Rattle.desk_reports.specs.Told.{IsWhyPage}
use Rattle.desk_reports.proofs.PageTexts.{mapped}
use Rattle.desk_reports.proofs.holders.why_page.Goals as goal

pub returns : goal.returns
returns c =
    mapped (λ text. IsPageText c.args.source.now c.nobody-subject.result c.bounds_of.result c.args.style.now
    c.in_ok-spelling.spelling [] [] [] text.items)
    (λ text. IsWhyPage c.args.source.now c.args.query.now c.args.answer.now c.args.style.now text.items)
    c.page_told.result c.page_told.ensures (λ text is. record {
      spelling = c.in_ok-spelling.spelling;
      spelled = c.in_ok-spelling.ensures;
      subject = c.nobody-subject.result;
      title = c.nobody-subject.ensures.title;
      asked = c.nobody-subject.ensures.question;
      page = subst (λ (bounds : TimingBounds). IsPageText c.args.source.now c.nobody-subject.result bounds
          c.args.style.now c.in_ok-spelling.spelling [] [] [] text.items) c.bounds_of.ensures is;
    })
