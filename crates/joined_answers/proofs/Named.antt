-- Who is named over spans of volumes held the prefix.
use Rattle.std.specs.Prelude.{◌≡◌, ◌⊎◌}
use Rattle.std.proofs.Common.{sym, ◌∙◌, ap, subst, refl, inl, inr}
use Rattle.causal_order.specs.Journals.{Journals, journals_of}
use Rattle.causal_order.specs.declared.certificate.Certificate.{Certificate}
use Rattle.attribution.specs.FirstRefusal.{AcceptsTheAccepted}
use Rattle.journal_lines.specs.declared.line.Journal.{Journal}
use Rattle.plain_search.specs.declared.query.HolderQuery.{HolderQuery}
use Rattle.desk_args.specs.declared.settings.SettingsCheck.{SettingsCheck}
use Rattle.pair_judgement.specs.declared.judging.Judgement.{Judgement}
use Rattle.attribution_desk.specs.declared.finding.Finding.{Finding}
use Rattle.attribution_desk.specs.declared.finding.Finding.TheVariants.{Shown}
use Rattle.attribution_desk.specs.declared.search.Search.TheVariants.{Who}
use Rattle.attribution_desk.specs.declared.search_answer.SearchAnswer.{SearchAnswer}
use Rattle.attribution_desk.specs.declared.search_answer.SearchAnswer.TheVariants.{Refused, Found}
use Rattle.attribution_desk.specs.Searching.{IsSearchOn, IsAsked, IsFindingOf}
use Rattle.attribution_desk.specs.Who.{IsHolding, IsHeld}
use Rattle.holder_answers.specs.declared.answer.HolderAnswer.{HolderAnswer}
use Rattle.holder_answers.specs.declared.answer.HolderAnswer.TheVariants.{Held}
use Rattle.holder_answers.specs.HolderAnswers.{search_of}
use Rattle.volume_spans.specs.Laws.{AcceptedOverSpansIsTrue}
use Rattle.joined_answers.specs.Laws.{NamedIsTrue}

-- what is found over two journals is held of them
found_of : (js : Journals) (q : HolderQuery) (settings : SettingsCheck) (c : Certificate) (f : Finding)
    → IsFindingOf (Who q settings) js f → Found (Shown c) ≡ Found f → IsHeld js q c
found_of js q settings c f is same =
    let e : Shown c ≡ f = cc in
    subst (λ (x : Finding). IsHolding js q x) (sym e) is

held_of : (a b : Journal) (q : HolderQuery) (settings : SettingsCheck) (c : Certificate)
    → IsSearchOn a b (Who q settings) (Found (Shown c)) → IsHeld (journals_of a b) q c
held_of a b q settings c (inl out) = let e = out.2 in absurd (cc)
held_of a b q settings c (inr (fit, inl forbids)) = let e = forbids.2 in absurd (cc)
held_of a b q settings c (inr (fit, inr (allows, found))) =
    found_of (journals_of a b) q settings c found.0 found.1 found.2

pub named_true : AcceptsTheAccepted → AcceptedOverSpansIsTrue → NamedIsTrue
named_true accepts law r q settings a c is named =
    let searched = subst (λ (x : HolderAnswer). IsSearchOn a.shown.primary a.shown.secondary (Who q settings)
    (search_of x)) named is.answer.searched in
    let held = held_of a.shown.primary a.shown.secondary q settings c searched in
    law r.primary.volumes.items r.secondary.volumes.items a.shown q.skew q.transit c is.is_shown
    ((accepts (journals_of a.shown.primary a.shown.secondary) q.skew q.transit c).0 held.shown.verdict)
