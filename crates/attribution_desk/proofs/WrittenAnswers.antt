-- What a command writes with status 0 says what is true.
use Rattle.std.specs.Prelude.{◌≡◌, ℕ, List, Option, Result, IfOk}
use Rattle.std.proofs.Common.{subst, sym}
use Rattle.auditor.specs.Texts.{AcceptedTextsAreTrue}
use Rattle.certificate.specs.Laws.{CertificatesAreSpelled}
use Rattle.plain_search.specs.declared.query.Query.{Query}
use Rattle.plain_search.specs.declared.query.HolderQuery.{HolderQuery}
use Rattle.desk_args.specs.declared.command.Command.{Command}
use Rattle.desk_args.specs.declared.command.Command.TheVariants.{Audit, Batch, Find, Who}
use Rattle.desk_args.specs.declared.settings.SettingsCheck.{SettingsCheck}
use Rattle.attribution_desk.specs.declared.error.DeskError.{DeskError}
use Rattle.attribution_desk.specs.declared.outcome.DeskOutcome.{DeskOutcome}
use Rattle.attribution_desk.specs.declared.search.Search.{Search}
use Rattle.attribution_desk.specs.declared.search.Search.TheVariants.{Find as FindEvidence, Who as FindHolder}
use Rattle.attribution_desk.specs.Answer.{IsDeskAnswer}
use Rattle.attribution_desk.specs.Batch.{IsBatch}
use Rattle.attribution_desk.specs.Searching.{IsSearchTold}
use Rattle.attribution_desk.specs.Running.{IsWritten}
use Rattle.attribution_desk.specs.Headline.{IsTrueOfTexts, AreTrueInEveryRun, IsTrueEvidence, IsTrueHolder, SaysTrue}
use Rattle.attribution_desk.specs.Headline.{WritesTrue}
use Rattle.attribution_desk.proofs.Headline.{answer_true, batch_true, true_of_written, found_of_written}
use Rattle.attribution_desk.proofs.Searches.{holder_true, evidence_true}

module _ (law : AcceptedTextsAreTrue) (given held now : Option (List ℕ)) (r : Result DeskOutcome DeskError)
    (command : Command) where
  says_true : (c : Command) → command ≡ c → IfOk r (λ outcome. outcome.status ≡ 0 → WritesTrue (SaysTrue c) given held now)
      → IfOk r (λ outcome. outcome.status ≡ 0 → WritesTrue (SaysTrue command) given held now)
  says_true c is h =
      subst (λ (x : Command). IfOk r (λ outcome. outcome.status ≡ 0 → WritesTrue (SaysTrue x) given held now)) (sym is) h

  pub audit_says_true : (skew transit : ℕ) → command ≡ Audit skew transit
      → IfOk r (λ outcome. IsWritten (λ input. IsDeskAnswer input skew transit) given held now outcome.status)
      → IfOk r (λ outcome. outcome.status ≡ 0 → WritesTrue (SaysTrue command) given held now)
  audit_says_true skew transit is h =
      says_true (Audit skew transit) is
      (true_of_written (λ input. IsDeskAnswer input skew transit) (λ input text. IsTrueOfTexts input skew transit)
      (λ input text status said none. answer_true law input text skew transit status said none) given held now r h)

  pub batch_says_true : (skew transit workers : ℕ) → command ≡ Batch skew transit workers
      → IfOk r (λ outcome. IsWritten (λ input. IsBatch input skew transit) given held now outcome.status)
      → IfOk r (λ outcome. outcome.status ≡ 0 → WritesTrue (SaysTrue command) given held now)
  batch_says_true skew transit workers is h =
      says_true (Batch skew transit workers) is
      (true_of_written (λ input. IsBatch input skew transit) (λ input text. AreTrueInEveryRun input skew transit)
      (λ input text status said none. batch_true law input text skew transit status said none) given held now r h)

  pub find_says_true : CertificatesAreSpelled → (q : Query) → command ≡ Find q
      → IfOk r (λ outcome. IsWritten (λ input. IsSearchTold input (FindEvidence q) outcome.warnings.items) given held now
      outcome.status)
      → IfOk r (λ outcome. outcome.status ≡ 0 → WritesTrue (SaysTrue command) given held now)
  find_says_true spells q is h =
      says_true (Find q) is
      (found_of_written (λ input. IsSearchTold input (FindEvidence q))
      (λ input text. IsTrueEvidence input text q.skew q.transit)
      (λ input notes text status said none. evidence_true spells law q input notes text status said none)
      given held now r h)

  pub who_says_true : CertificatesAreSpelled → (q : HolderQuery) (settings : SettingsCheck) → command ≡ Who q settings
      → IfOk r (λ outcome. IsWritten (λ input. IsSearchTold input (FindHolder q settings) outcome.warnings.items) given
      held now outcome.status)
      → IfOk r (λ outcome. outcome.status ≡ 0 → WritesTrue (SaysTrue command) given held now)
  who_says_true spells q settings is h =
      says_true (Who q settings) is
      (found_of_written (λ input. IsSearchTold input (FindHolder q settings))
      (λ input text. IsTrueHolder input text q.skew q.transit)
      (λ input notes text status said none. holder_true spells law q settings input notes text status said none)
      given held now r h)
