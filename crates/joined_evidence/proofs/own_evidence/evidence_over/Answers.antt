use Rattle.std.proofs.Common.{ℕ, Option, subst, refl, ap, ◌∙◌}
use Rattle.plain_search.specs.declared.query.Query.{Query}
use Rattle.attribution_desk.specs.declared.search.Search.TheVariants.{Find}
use Rattle.attribution_desk.specs.Searching.{IsSearchOn}
use Rattle.archive_desk.specs.Stretches.{cut_at}
use Rattle.joined_evidence.proofs.own_evidence.evidence_over.Goals as goal

pub returns-in-Ok : goal.returns-in-Ok
returns-in-Ok g c =
    let shown = c.args.shown.now in (
      refl,
      subst (λ (asked : Query). IsSearchOn shown.primary shown.secondary (Find asked) c.in-Ok.answer)
          (c.cut_at.ensures ∙ ap (λ (o : Option ℕ). cut_at o c.args.query.now) c.shown_until-until.ensures)
          c.in-Ok.ensures.answer,
      c.in_ok-warnings.ensures,
      c.shown_until-until.ensures,
    )
