-- What is accepted of texts is accepted of what they spell.
use Rattle.std.proofs.Common.{◌≡◌, ℕ, List, Result, Ok, subst, ◌∙◌, inl, inr}
use Rattle.std.specs.Prelude.{IfOk}
use Rattle.binding_rules.specs.declared.role.Role.{Role}
use Rattle.binding_rules.specs.declared.role.Role.TheVariants.{Primary, Secondary}
use Rattle.journal_lines.specs.declared.fault.JournalFault.{JournalFault}
use Rattle.journal_lines.specs.declared.line.Journal.{Journal as Lines}
use Rattle.journal_text.specs.Faults.{journal_of_side}
use Rattle.journal_text.specs.Laws.{SideGivesWhatItSpells}
use Rattle.causal_order.specs.declared.certificate.Certificate.{Certificate as Claim}
use Rattle.causal_order.specs.Journals.{Journals}
use Rattle.certificate.specs.Faults.{certificate_of}
use Rattle.certificate.specs.Laws.{CertificatesAreSpelled}
use Rattle.attribution.specs.declared.verdict.Verdict.{Verdict}
use Rattle.attribution.specs.declared.verdict.Verdict.TheVariants.{Accepted}
use Rattle.attribution.specs.FirstRefusal.{IsVerdict}
use Rattle.book_rules.specs.NextHead.{AreLegal}
use Rattle.attribution.proofs.Refusals.{accepted_from}
use Rattle.attribution.proofs.Headline.{headline}
use Rattle.attribution.proofs.Lawful.{lawful}
use Rattle.auditor.specs.declared.error.AuditError.{AuditError}
use Rattle.auditor.specs.declared.pair.Checked.TheVariants.{Legal}
use Rattle.journal_merge.specs.declared.merged.Merged.{Merged}
use Rattle.auditor.specs.Pair.{IsChecked}
use Rattle.auditor.proofs.Pairs.{refused_not_accepted}
use Rattle.causal_order.specs.Journals.{journals_of}
use Rattle.auditor.specs.Texts.{SpellsJournal, IsVerdictOfJournals, IsVerdictOfParsed, ParsedIsTrueInEveryRun}
use Rattle.auditor.specs.Texts.{TextsAreTrueInEveryRun}

-- ---- the headline over texts

over_certificate : (a b : Lines) (skew transit : ℕ) (claim : Claim)
    → IsVerdictOfJournals a b skew transit claim Accepted → IsVerdict (journals_of a b) skew transit claim Accepted
over_certificate a b skew transit claim (inl h) = absurd (refused_not_accepted a b h)
over_certificate a b skew transit claim (inr h) = h.1

pub accepted_parsed : CertificatesAreSpelled
    → (a b : Result Lines JournalFault) (certificate : List ℕ) (skew transit : ℕ) (r : Result Verdict AuditError)
    → r ≡ Ok Accepted → IfOk r (IsVerdictOfParsed a b skew transit (certificate_of certificate))
    → ParsedIsTrueInEveryRun a b certificate skew transit
accepted_parsed spelled a b certificate skew transit r accepted h ja jb claim ra rb sc =
    let rc : certificate_of certificate ≡ Ok claim = (spelled certificate claim).1 (sc.written, sc.spelled) in
    let read : IsVerdictOfParsed a b skew transit (certificate_of certificate) Accepted =
    subst (λ x. IfOk x (IsVerdictOfParsed a b skew transit (certificate_of certificate))) accepted h in
    let first = subst (λ x. IsVerdictOfParsed x b skew transit (certificate_of certificate) Accepted) ra read in
    let second = subst (λ x. IsVerdictOfParsed (Ok ja) x skew transit (certificate_of certificate) Accepted) rb first in
    let third : IsVerdictOfJournals ja jb skew transit claim Accepted =
    subst (λ x. IsVerdictOfParsed (Ok ja) (Ok jb) skew transit x Accepted) rc second in
    headline AreLegal lawful (journals_of ja jb) skew transit claim
    (accepted_from (journals_of ja jb) skew transit claim (over_certificate ja jb skew transit claim third))

-- over a legal pair the verdict is that on the certificate
pub over_legal : (a b : Lines) (skew transit : ℕ) (claim : Claim) (js : Journals) (v : Verdict) (m : Merged)
    → IsChecked a b (Legal m) → js ≡ journals_of a b → IsVerdict js skew transit claim v
    → IsVerdictOfJournals a b skew transit claim v
over_legal a b skew transit claim js v m h e verdict =
    inr (h.0, subst (λ x. IsVerdict x skew transit claim v) e verdict)

-- what a text spells is read
pub side_read : SideGivesWhatItSpells → (side : Role) (text : List ℕ) (j : Lines) → SpellsJournal side text j
    → journal_of_side side text ≡ Ok j
side_read spelled side text j s = (spelled side text j).1 (s.written, s.role, s.spelled)

-- what is true of readings is true of the texts
pub texts_parsed : SideGivesWhatItSpells
    → (a b certificate : List ℕ) (skew transit : ℕ) (ra rb : Result Lines JournalFault)
    → ra ≡ journal_of_side Primary a → rb ≡ journal_of_side Secondary b
    → ParsedIsTrueInEveryRun ra rb certificate skew transit → TextsAreTrueInEveryRun a b certificate skew transit
texts_parsed spelled a b certificate skew transit ra rb ea eb h ja jb claim sa sb sc =
    h ja jb claim (ea ∙ side_read spelled Primary a ja sa) (eb ∙ side_read spelled Secondary b jb sb) sc

-- the verdict on what was read
pub verdict_of : (a b : Result Lines JournalFault) (certificate : List ℕ) (skew transit : ℕ)
    (r : Result Verdict AuditError) (ja jb : Lines) (claim : Claim)
    → a ≡ Ok ja → b ≡ Ok jb → certificate_of certificate ≡ Ok claim
    → IfOk r (IsVerdictOfJournals ja jb skew transit claim)
    → IfOk r (IsVerdictOfParsed a b skew transit (certificate_of certificate))
verdict_of a b certificate skew transit r ja jb claim ra rb rc h = rw (ra, rb, rc) h
