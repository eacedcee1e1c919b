-- The object of an answer that names a holder.
use Rattle.std.specs.Prelude.{◌≡◌, ℕ, List, Option, codes}
use Rattle.std.proofs.Common.{ap, subst, sym, inl, inr}
use Rattle.serde_json.specs.Data.{Data}
use Rattle.serde_json.specs.Find.{get}
use Rattle.journal_lines.specs.declared.line.Journal.{Journal}
use Rattle.causal_order.specs.Journals.{Journals, journals_of}
use Rattle.causal_order.specs.declared.certificate.Certificate.{Certificate}
use Rattle.plain_search.specs.declared.query.HolderQuery.{HolderQuery}
use Rattle.desk_args.specs.declared.settings.SettingsCheck.{SettingsCheck}
use Rattle.pair_judgement.specs.declared.judging.Judgement.TheVariants.{Verdict}
use Rattle.attribution.specs.declared.verdict.Verdict.TheVariants.{Accepted}
use Rattle.attribution_desk.specs.Judgements.{IsJudgementOfJournals}
use Rattle.attribution_desk.specs.declared.finding.Finding.{Finding}
use Rattle.attribution_desk.specs.declared.finding.Finding.TheVariants.{Shown}
use Rattle.attribution_desk.specs.declared.search.Search.TheVariants.{Who}
use Rattle.attribution_desk.specs.declared.search_answer.SearchAnswer.TheVariants.{Found}
use Rattle.attribution_desk.specs.Searching.{IsSearchOn, IsFindingOf}
use Rattle.attribution_desk.specs.Who.{IsHolding, IsHeld}
use Rattle.answer_data.specs.declared.parts.NamedHolder.{NamedHolder}
use Rattle.answer_data.specs.Answers.{IsHolder, IsFrom, IsTo, IsAnswerData}
use Rattle.answer_data.specs.Laws.{SaysHeld, Names}
use Rattle.answer_data.specs.Parts.{Said}
use Rattle.answer_data.specs.Texts.{AreTexts}

-- ---- what is found over two journals is accepted there

found_of : (js : Journals) (q : HolderQuery) (settings : SettingsCheck) (c : Certificate) (f : Finding)
    → IsFindingOf (Who q settings) js f → Found (Shown c) ≡ Found f → IsHeld js q c
found_of js q settings c f is same =
    let e : Shown c ≡ f = cc in
    subst (λ (x : Finding). IsHolding js q x) (sym e) is

pub held_is_accepted : (a b : Journal) (q : HolderQuery) (settings : SettingsCheck) (c : Certificate)
    → IsSearchOn a b (Who q settings) (Found (Shown c))
    → IsJudgementOfJournals a b q.skew q.transit c (Verdict Accepted)
held_is_accepted a b q settings c (inl out) = let e = out.2 in absurd (cc)
held_is_accepted a b q settings c (inr (fit, inl forbids)) = let e = forbids.2 in absurd (cc)
held_is_accepted a b q settings c (inr (fit, inr (allows, found))) =
    let held = found_of (journals_of a b) q settings c found.0 found.1 found.2 in
    inr (fit, held.shown.verdict)

-- ---- its object names it

pub object_names : (command : List ℕ) (status : ℕ) (s : Said) (notes : List ℕ) (c : Certificate) (d : Data)
    → IsAnswerData command status s notes d → SaysHeld c s → Names c d
object_names command status s notes c d is says =
    let lines = is.then_so.then_so.then_so in
    let holder = lines.then_so in
    let from = holder.then_so in
    let to = from.then_so in
    let certificates = to.then_so in
    let whole = certificates.then_so.then_so.then_so.then_so in
    record {
      holder = (
        holder.value,
        ap (get (codes "holder")) whole,
        subst (λ (n : Option NamedHolder). IsHolder n holder.value) says.named holder.is,
      );
      from = (
        from.value,
        ap (get (codes "from")) whole,
        subst (λ (n : Option NamedHolder). IsFrom n from.value) says.named from.is,
      );
      to = (
        to.value,
        ap (get (codes "to")) whole,
        subst (λ (n : Option NamedHolder). IsTo n to.value) says.named to.is,
      );
      certificates = (
        certificates.value,
        ap (get (codes "certificates")) whole,
        subst (λ (ts : List (List ℕ)). AreTexts ts certificates.value) says.certificate certificates.is,
      );
    }
