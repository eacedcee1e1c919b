-- What the desk accepts is true in every run of the pair that leaves the journals.
use Rattle.std.specs.Prelude.{◌≡◌, ℕ, List, [], ◌∷◌, All, Option, Some, None, Result, Ok, Err, IfOk, IfSome, ◌==◌}
use Rattle.std.specs.Prelude.{if◌then◌else◌}
use Rattle.std.proofs.lemmas.List.Elements.{All-nil, All-cons}
use Rattle.std.proofs.Common.{arith, inl, inr, subst, sym, refl, ◌∙◌}
use Rattle.binding_rules.specs.declared.role.Role.TheVariants.{Primary, Secondary}
use Rattle.journal_lines.specs.declared.line.Journal.{Journal as Lines}
use Rattle.journal_lines.specs.declared.fault.JournalFault.{JournalFault}
use Rattle.journal_text.specs.Faults.{journal_of_side}
use Rattle.causal_order.specs.declared.certificate.Certificate.{Certificate as Claim}
use Rattle.causal_order.specs.declared.fault.CertificateFault.{CertificateFault}
use Rattle.certificate.specs.Faults.{certificate_of}
use Rattle.attribution.specs.declared.verdict.Verdict.{Verdict as VerdictValue}
use Rattle.attribution.specs.declared.verdict.Verdict.TheVariants.{Accepted, Journal, Certificate, Rule, Unsent}
use Rattle.attribution.specs.declared.verdict.Verdict.TheVariants.{Differs, Circular, EmptyInterval, PastEnd, PieceGap}
use Rattle.attribution.specs.declared.verdict.Verdict.TheVariants.{PieceGrant, BeforeOpen, PieceRelease, Uncovered}
use Rattle.attribution.specs.declared.verdict.Verdict.TheVariants.{Reason}
use Rattle.auditor.specs.Texts.{IsVerdictOfParsed, TextsAreTrueInEveryRun, AcceptedTextsAreTrue}
use Rattle.auditor.specs.Texts.{ParsedIsTrueInEveryRun}
use Rattle.auditor.proofs.TextVerdicts.{accepted_parsed}
use Rattle.certificate.specs.Laws.{CertificatesAreSpelled}
use Rattle.pair_judgement.specs.declared.judging.Judgement.{Judgement}
use Rattle.pair_judgement.specs.declared.judging.Judgement.TheVariants.{Verdict, Clocks, Pair, Skew, Carried}
use Rattle.pair_judgement.specs.Judgements.{verdict_status, status_of}
use Rattle.attribution_desk.specs.declared.error.DeskError.{DeskError}
use Rattle.attribution_desk.specs.declared.outcome.DeskOutcome.{DeskOutcome}
use Rattle.attribution_desk.specs.Judgements.{IsJudgementOfParsed}
use Rattle.attribution_desk.specs.declared.answer.DeskAnswer.{DeskAnswer}
use Rattle.attribution_desk.specs.Answer.{IsAnswerOf, IsDeskAnswer}
use Rattle.attribution_desk.specs.Input.{first_text, text_behind}
use Rattle.attribution_desk.specs.Batch.{AreRuled, status_of_all, IsBatch}
use Rattle.attribution_desk.specs.Running.{IsWritten}
use Rattle.attribution_desk.specs.Headline.{IsTrueOfTexts, AreTrueInEveryRun, WritesTrue}

-- ---- status 0 is that the certificate is accepted

pub accepts : (v : VerdictValue) → verdict_status v ≡ 0 → v ≡ Accepted
accepts Accepted e = refl
accepts (Journal side fault) e = absurd (omega (arith, e))
accepts (Certificate fault) e = absurd (omega (arith, e))
accepts (Rule side line rule) e = absurd (omega (arith, e))
accepts (Unsent r) e = absurd (omega (arith, e))
accepts (Differs r) e = absurd (omega (arith, e))
accepts Circular e = absurd (omega (arith, e))
accepts EmptyInterval e = absurd (omega (arith, e))
accepts (PastEnd side) e = absurd (omega (arith, e))
accepts (PieceGap n) e = absurd (omega (arith, e))
accepts (PieceGrant n) e = absurd (omega (arith, e))
accepts BeforeOpen e = absurd (omega (arith, e))
accepts (PieceRelease n r) e = absurd (omega (arith, e))
accepts (Uncovered r) e = absurd (omega (arith, e))
accepts (Reason r) e = absurd (omega (arith, e))

-- all have status 0 where the first has, and the rest
all_by : (v : VerdictValue) (rest : ℕ) → (if verdict_status v == 0 then rest else 1) ≡ 0
    → (verdict_status v ≡ 0) × (rest ≡ 0)
all_by Accepted rest e = (refl, e)
all_by (Journal side fault) rest e = absurd (omega (arith, e))
all_by (Certificate fault) rest e = absurd (omega (arith, e))
all_by (Rule side line rule) rest e = absurd (omega (arith, e))
all_by (Unsent r) rest e = absurd (omega (arith, e))
all_by (Differs r) rest e = absurd (omega (arith, e))
all_by Circular rest e = absurd (omega (arith, e))
all_by EmptyInterval rest e = absurd (omega (arith, e))
all_by (PastEnd side) rest e = absurd (omega (arith, e))
all_by (PieceGap n) rest e = absurd (omega (arith, e))
all_by (PieceGrant n) rest e = absurd (omega (arith, e))
all_by BeforeOpen rest e = absurd (omega (arith, e))
all_by (PieceRelease n r) rest e = absurd (omega (arith, e))
all_by (Uncovered r) rest e = absurd (omega (arith, e))
all_by (Reason r) rest e = absurd (omega (arith, e))

first_and_rest : (r : Judgement) (rest : ℕ) → (if status_of r == 0 then rest else 1) ≡ 0 → (status_of r ≡ 0) × (rest ≡ 0)
first_and_rest (Verdict v) rest e = all_by v rest e
first_and_rest (Clocks take) rest e = absurd (omega (arith, e))
first_and_rest Pair rest e = absurd (omega (arith, e))
first_and_rest Skew rest e = absurd (omega (arith, e))
first_and_rest (Carried line) rest e = absurd (omega (arith, e))

-- what is ruled as accepted has that verdict
ruled_parsed : (a b : Result Lines JournalFault) (skew transit : ℕ) (claim : Result Claim CertificateFault)
    → IsJudgementOfParsed a b skew transit claim (Verdict Accepted) → IsVerdictOfParsed a b skew transit claim Accepted
ruled_parsed (Ok a) (Ok b) skew transit (Ok claim) (inl out) = inl out
ruled_parsed (Ok a) (Ok b) skew transit (Ok claim) (inr (fit, judged)) = inr (fit.0, judged)
ruled_parsed (Ok a) (Ok b) skew transit (Err fault) h = absurd (cc)
ruled_parsed (Ok a) (Err fault) skew transit claim h = absurd (cc)
ruled_parsed (Err fault) b skew transit claim h = absurd (cc)

accepted_ruling : (a b : Result Lines JournalFault) (skew transit : ℕ) (claim : Result Claim CertificateFault)
    (r : Judgement)
    → IsJudgementOfParsed a b skew transit claim r → status_of r ≡ 0 → IsVerdictOfParsed a b skew transit claim Accepted
accepted_ruling a b skew transit claim (Verdict v) h none =
    ruled_parsed a b skew transit claim (subst (λ (x : VerdictValue).
    IsJudgementOfParsed a b skew transit claim (Verdict x)) (accepts v none) h)
accepted_ruling a b skew transit claim (Clocks take) h none = absurd (omega (arith, none))
accepted_ruling a b skew transit claim Pair h none = absurd (omega (arith, none))
accepted_ruling a b skew transit claim Skew h none = absurd (omega (arith, none))
accepted_ruling a b skew transit claim (Carried line) h none = absurd (omega (arith, none))

-- the answer to one certificate over two journals that were read
answered_true : CertificatesAreSpelled → (a b : Result Lines JournalFault) (text line : List ℕ)
    (skew transit status : ℕ) → IsAnswerOf a b text skew transit line status
    → status ≡ 0 → ParsedIsTrueInEveryRun a b text skew transit
answered_true law a b text line skew transit status h none =
    accepted_parsed law a b text skew transit (Ok Accepted) refl
    (accepted_ruling a b skew transit (certificate_of text) h.0 h.1 (sym h.3 ∙ none))

pub true_of_answer : CertificatesAreSpelled → (a b : Result Lines JournalFault) (text : List ℕ) (skew transit : ℕ)
    (r : Result DeskAnswer DeskError)
    → IfOk r (λ answer. IsAnswerOf a b text skew transit answer.line.items answer.status)
    → IfOk r (λ answer. answer.status ≡ 0 → ParsedIsTrueInEveryRun a b text skew transit)
true_of_answer law a b text skew transit (Ok answer) h =
    λ none. answered_true law a b text answer.line.items skew transit answer.status h none
true_of_answer law a b text skew transit (Err e) h = tt

module _ (law : AcceptedTextsAreTrue) where
  ruled_true : (a b text : List ℕ) (skew transit : ℕ) (r : Judgement)
      → IsJudgementOfParsed (journal_of_side Primary a) (journal_of_side Secondary b) skew transit (certificate_of text) r
      → status_of r ≡ 0
      → TextsAreTrueInEveryRun a b text skew transit
  ruled_true a b text skew transit r h none =
      law a b text skew transit (accepted_ruling (journal_of_side Primary a) (journal_of_side Secondary b) skew transit
      (certificate_of text) r h none)

  -- one certificate
  pub answer_true : (input line : List ℕ) (skew transit status : ℕ) → IsDeskAnswer input skew transit line status
      → status ≡ 0 → IsTrueOfTexts input skew transit
  answer_true input line skew transit status h none =
      ruled_true (first_text input) (first_text (text_behind input))
      (text_behind (text_behind input)) skew transit h.0 h.1 (sym h.3 ∙ none)

  -- each of many
  all_true : (a b : List ℕ) (skew transit : ℕ) (texts : List (List ℕ)) (rs : List Judgement)
      → AreRuled (journal_of_side Primary a) (journal_of_side Secondary b) skew transit texts rs → status_of_all rs ≡ 0
      → All (λ text. TextsAreTrueInEveryRun a b text skew transit) texts
  all_true a b skew transit [] [] h none = All-nil (λ text. TextsAreTrueInEveryRun a b text skew transit)
  all_true a b skew transit (text ∷ texts) (r ∷ rs) h none =
      let both = first_and_rest r (status_of_all rs) none in
      All-cons (λ x. TextsAreTrueInEveryRun a b x skew transit) text texts
      (ruled_true a b text skew transit r h.0 both.0) (all_true a b skew transit texts rs h.1 both.1)
  all_true a b skew transit [] (r ∷ rs) h none = absurd h
  all_true a b skew transit (text ∷ texts) [] h none = absurd h

  pub batch_true : (input text : List ℕ) (skew transit status : ℕ) → IsBatch input skew transit text status
      → status ≡ 0 → AreTrueInEveryRun input skew transit
  batch_true input text skew transit status h none =
      let verdicts = h.1 in (
        verdicts.0,
        verdicts.1,
        all_true (first_text input) (first_text (text_behind input)) skew transit verdicts.0 h.0
            verdicts.2 (sym h.3 ∙ none),
      )

-- ---- of what was written where it is known what the reader had to give

pub true_of_written : (answers : List ℕ → List ℕ → ℕ → Type 0) (says : List ℕ → List ℕ → Type 0)
    → ((input text : List ℕ) (status : ℕ) → answers input text status → status ≡ 0 → says input text)
    → (given held now : Option (List ℕ)) (r : Result DeskOutcome DeskError)
    → IfOk r (λ outcome. IsWritten answers given held now outcome.status)
    → IfOk r (λ outcome. outcome.status ≡ 0 → WritesTrue says given held now)
true_of_written answers says by None held now (Ok outcome) h = λ none. tt
true_of_written answers says by (Some input) held now (Ok outcome) h =
    λ none. (h.0, by input h.0 outcome.status h.1 none, h.2)
true_of_written answers says by given held now (Err e) h = tt

-- of a search the answer depends on what is warned of
pub found_of_written : (answers : List ℕ → List ℕ → List ℕ → ℕ → Type 0) (says : List ℕ → List ℕ → Type 0)
    → ((input notes text : List ℕ) (status : ℕ) → answers input notes text status → status ≡ 0 → says input text)
    → (given held now : Option (List ℕ)) (r : Result DeskOutcome DeskError)
    → IfOk r (λ outcome. IsWritten (λ input. answers input outcome.warnings.items) given held now outcome.status)
    → IfOk r (λ outcome. outcome.status ≡ 0 → WritesTrue says given held now)
found_of_written answers says by None held now (Ok outcome) h = λ none. tt
found_of_written answers says by (Some input) held now (Ok outcome) h =
    λ none. (h.0, by input outcome.warnings.items h.0 outcome.status h.1 none, h.2)
found_of_written answers says by given held now (Err e) h = tt
