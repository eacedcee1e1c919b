-- What is answered over a case of two journals.
use Rattle.std.specs.Prelude.{◌≡◌, Result, Ok, Err, IfOk}
use Rattle.std.proofs.Common.{refl, subst, inl, inr}
use Rattle.journal_lines.specs.declared.line.Journal.{Journal}
use Rattle.causal_order.specs.Journals.{Journals, journals_of}
use Rattle.pair_judgement.specs.declared.judging.Judgement.{Judgement}
use Rattle.pair_judgement.specs.PairJudgements.{IsRuledOut, IsFit}
use Rattle.plain_search.specs.declared.query.HolderQuery.{HolderQuery}
use Rattle.desk_args.specs.declared.settings.SettingsCheck.{SettingsCheck}
use Rattle.attribution_desk.specs.declared.search.Search.TheVariants.{Who}
use Rattle.attribution_desk.specs.Searching.{IsAsked}
use Rattle.candidate_leases.specs.declared.volume_ends.VolumeEnds.{VolumeEnds}
use Rattle.holder_answers.specs.declared.answer.HolderAnswer.{HolderAnswer}
use Rattle.holder_answers.specs.declared.answer.HolderAnswer.TheVariants.{Refused}
use Rattle.holder_answers.specs.HolderAnswers.{search_of, IsReasoned, IsAnswerOver}

pub open_answered : {E : Type 0} (a b : Journal) (q : HolderQuery) (settings : SettingsCheck) (ends : VolumeEnds)
    (js : Journals) (r : Result HolderAnswer E) → IsFit a b q.skew × (js ≡ journals_of a b)
    → IfOk r (λ answer. IsAsked (Who q settings) a b js (search_of answer)) → IfOk r (IsReasoned js q ends)
    → IfOk r (IsAnswerOver a b q settings ends)
open_answered a b q settings ends js (Ok answer) case asked why = record {
  searched = inr (case.0, subst (λ (x : Journals). IsAsked (Who q settings) a b x (search_of answer)) case.1 asked);
  reasoned = subst (λ (x : Journals). IsReasoned x q ends answer) case.1 why;
}
open_answered a b q settings ends js (Err e) case asked why = tt

pub ruled_out : (a b : Journal) (q : HolderQuery) (settings : SettingsCheck) (ends : VolumeEnds) (r : Judgement)
    → IsRuledOut a b q.skew r → IsAnswerOver a b q settings ends (Refused r)
ruled_out a b q settings ends r out = record { searched = inl (r, out, refl); reasoned = tt }
