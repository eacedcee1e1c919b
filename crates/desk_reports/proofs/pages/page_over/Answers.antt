use Rattle.std.proofs.Common.{refl, sym, subst, List, ℕ}
use Rattle.desk_reports.specs.Pages.{primary_span, secondary_span, IsUsedText}
use Rattle.desk_reports.proofs.PageTexts.{page_text}
use Rattle.desk_reports.proofs.pages.page_over.Goals as goal

pub returns : goal.returns
returns c =
    page_text (λ text. text.items) c.args.source.now c.args.subject.now c.args.bounds.now c.args.style.now
    c.args.spelling.now c.args.picture.now c.args.pieces.now c.args.cited.now _ c.page_of.result c.page_of.ensures (record {
      title = c.title.ensures;
      facts = c.facts_of-facts.ensures;
      says = refl;
      shows = refl;
      grants = refl;
      lines = refl;
      origins = refl;
      access = refl;
      primary = subst (λ (text : List ℕ). IsUsedText c.args.source.now.pair.now.primary
          (primary_span c.args.source.now.volumes) text c.args.primary.now.origin) (sym c.deref.ensures.value)
          c.requires.primary;
      secondary = subst (λ (text : List ℕ). IsUsedText c.args.source.now.pair.now.secondary
          (secondary_span c.args.source.now.volumes) text c.args.secondary.now.origin) (sym c.deref-2.ensures.value)
          c.requires.secondary;
      check = c.check-check.ensures;
      skew = refl;
      transit = refl;
    })
