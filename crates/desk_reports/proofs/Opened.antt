-- What is explained over journals that fit.
use Rattle.std.specs.Prelude.{◌≡◌, ℕ, List, Result, Ok, Err, IfOk}
use Rattle.std.proofs.Common.{subst, inr}
use Rattle.journal_lines.specs.declared.line.Journal.{Journal as Lines}
use Rattle.causal_order.specs.declared.certificate.Certificate.{Certificate as Claim}
use Rattle.causal_order.specs.Journals.{Journals, journals_of}
use Rattle.pair_judgement.specs.PairJudgements.{IsFit}
use Rattle.report_document.specs.declared.document.Explanation.{Explanation}
use Rattle.text_fields.specs.Parsing.{Gives}
use Rattle.certificate.specs.declared.error.CertificateError.{CertificateError}
use Rattle.certificate.specs.declared.error.CertificateError.TheVariants.{Fault, Memory}
use Rattle.certificate.specs.Faults.{fault_of, certificate_of}
use Rattle.certificate.specs.Spelling.{IsWritten, certificate_text}
use Rattle.desk_reports.specs.Explaining.{IsFullExplanation, IsExplained}
use Rattle.desk_reports.specs.Told.{IsReadOf}

pub open_explained : {E : Type 0} (a b : Lines) (skew transit : ℕ) (claim : Claim) (js : Journals)
    (r : Result Explanation E) → IsFit a b skew × (js ≡ journals_of a b) → IfOk r (IsFullExplanation js skew transit claim)
    → IfOk r (IsExplained a b skew transit claim)
open_explained a b skew transit claim js (Ok x) case shown =
    inr (case.0, subst (λ (js : Journals). IsFullExplanation js skew transit claim x) case.1 shown)
open_explained a b skew transit claim js (Err e) case shown = tt

-- what a certificate's text was read to
pub read_so : (text : List ℕ) (r : Result Claim CertificateError)
    → IfOk r (λ c. IsWritten c × (text ≡ certificate_text c)) → Gives fault_of (λ c. c) r (certificate_of text)
    → IsReadOf text r
read_so text (Ok c) found exact = (found.1, exact)
read_so text (Err (Fault fault)) found exact = exact
read_so text (Err Memory) found exact = tt
