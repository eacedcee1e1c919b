-- A ruling that is explained is the desk's.
use Rattle.std.specs.Prelude.{◌≡◌, ◌⊎◌, ℕ}
use Rattle.std.proofs.Common.{subst, sym, inl, inr}
use Rattle.journal_lines.specs.declared.line.Journal.{Journal as Lines}
use Rattle.causal_order.specs.Journals.{journals_of}
use Rattle.causal_order.specs.declared.certificate.Certificate.{Certificate as Claim}
use Rattle.pair_judgement.specs.declared.judging.Judgement.{Judgement}
use Rattle.pair_judgement.specs.declared.judging.Judgement.TheVariants.{Verdict}
use Rattle.attribution_desk.specs.Judgements.{IsJudged, IsJudgementOfJournals}
use Rattle.report_document.specs.declared.document.Explanation.{Explanation}
use Rattle.desk_reports.specs.Explaining.{IsExplained}

pub accepted_is_ruled : (a b : Lines) (skew transit : ℕ) (claim : Claim) (e : Explanation)
    → IsExplained a b skew transit claim e → IsJudgementOfJournals a b skew transit claim e.ruling
accepted_is_ruled a b skew transit claim e (inl out) = inl out.0
accepted_is_ruled a b skew transit claim e (inr full) = inr (
  full.0,
  subst (λ (r : Judgement). IsJudged (journals_of a b) skew transit claim r) (sym full.1.2) full.1.3,
)
