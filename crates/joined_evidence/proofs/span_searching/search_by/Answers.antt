use Rattle.std.proofs.Common.{ℕ, Option, subst, ap, ◌∙◌}
use Rattle.plain_search.specs.declared.query.Query.{Query}
use Rattle.archive_desk.specs.Stretches.{cut_at}
use Rattle.joined_evidence.specs.declared.searched.JournalSearch.{JournalSearch}
use Rattle.joined_evidence.specs.declared.searched.JournalSearch.TheVariants.{Shown, Carried, NotShown}
use Rattle.joined_evidence.specs.Searches.{IsJournalSearch}
use Rattle.joined_evidence.proofs.span_searching.search_by.Goals as goal

pub returns-in-Shown : goal.returns-in-Shown
returns-in-Shown g c =
    let shown = c.args.shown in
    let asked = c.cut_at-asked.ensures ∙ ap (λ (o : Option ℕ). cut_at o c.args.query.now) c.shown_until-until.ensures in
    let came = subst (λ (s : JournalSearch). IsJournalSearch shown.primary shown.secondary c.cut_at-asked.result
    c.args.moment.now s) c.in-Shown.is c.in_ok-certificate.ensures in
    let is = subst (λ (q : Query). IsJournalSearch shown.primary shown.secondary q c.args.moment.now
    (Shown c.in-Shown.certificate)) asked came in
    record {
      spans = c.spans.ensures;
      last = c.last_pair-pair.ensures;
      shown = shown;
      is_shown = c.requires.shown;
      until = c.shown_until-until.ensures;
      fit = is.0;
      found = is.1;
      warned = c.in_ok-warnings-in-Shown.ensures;
    }

pub returns-in-Carried : goal.returns-in-Carried
returns-in-Carried g c =
    let shown = c.args.shown in
    let asked = c.cut_at-asked.ensures ∙ ap (λ (o : Option ℕ). cut_at o c.args.query.now) c.shown_until-until.ensures in
    let came = subst (λ (s : JournalSearch). IsJournalSearch shown.primary shown.secondary c.cut_at-asked.result
    c.args.moment.now s) c.in-Carried.is c.in_ok-certificate.ensures in (
      shown,
      c.requires.shown,
      subst (λ (q : Query). IsJournalSearch shown.primary shown.secondary q c.args.moment.now Carried) asked came,
    )

pub returns-in-NotShown : goal.returns-in-NotShown
returns-in-NotShown g c =
    let shown = c.args.shown in
    let asked = c.cut_at-asked.ensures ∙ ap (λ (o : Option ℕ). cut_at o c.args.query.now) c.shown_until-until.ensures in
    let came = subst (λ (s : JournalSearch). IsJournalSearch shown.primary shown.secondary c.cut_at-asked.result
    c.args.moment.now s) c.in-NotShown.is c.in_ok-certificate.ensures in (
      shown,
      c.requires.shown,
      subst (λ (q : Query). IsJournalSearch shown.primary shown.secondary q c.args.moment.now NotShown) asked came,
    )
