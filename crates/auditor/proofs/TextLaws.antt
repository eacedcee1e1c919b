-- Three texts have one verdict, which is that they are accepted exactly where they are.
use Rattle.std.specs.Prelude.{◌≡◌, ℕ, List, Result, Ok, Err}
use Rattle.std.proofs.Common.{sym, ◌∙◌, inl, inr, refl}
use Rattle.binding_rules.specs.declared.role.Role.TheVariants.{Primary, Secondary}
use Rattle.journal_lines.specs.declared.line.Journal.{Journal as Lines}
use Rattle.journal_lines.specs.declared.fault.JournalFault.{JournalFault}
use Rattle.journal_text.specs.Faults.{journal_of_side}
use Rattle.journal_text.specs.Laws.{SideGivesWhatItSpells}
use Rattle.causal_order.specs.Journals.{journals_of}
use Rattle.causal_order.specs.declared.certificate.Certificate.{Certificate as Claim}
use Rattle.causal_order.specs.declared.fault.CertificateFault.{CertificateFault}
use Rattle.certificate.specs.Faults.{certificate_of}
use Rattle.certificate.specs.Laws.{CertificatesAreSpelled}
use Rattle.book_rules.specs.Laws.{LegalIsUnbroken, OneFirstBroken}
use Rattle.journal_merge.specs.Answer.{AnswerIsOne}
use Rattle.journal_merge.specs.Laws.{PlacedOnce}
use Rattle.attribution.specs.declared.verdict.Verdict.{Verdict}
use Rattle.attribution.specs.declared.verdict.Verdict.TheVariants.{Accepted}
use Rattle.attribution.specs.FirstRefusal.{IsVerdict, AcceptsTheAccepted, OneVerdict}
use Rattle.auditor.specs.Pair.{IsPairLegal}
use Rattle.auditor.specs.Texts.{IsVerdictOfJournals, IsVerdictOfParsed, IsVerdictOfTexts, AreAccepted}
use Rattle.auditor.specs.Texts.{TextsAcceptTheAccepted, OneTextVerdict}
use Rattle.auditor.proofs.Pairs.{refused_not_accepted}
use Rattle.auditor.proofs.OneAnswer.{refused_once, legal_not}
use Rattle.auditor.proofs.TextVerdicts.{side_read}

-- what parsing gave is two journals and a certificate, accepted over the two
record Parts (ra rb : Result Lines JournalFault) (rc : Result Claim CertificateFault) (skew transit : ℕ) : Type 0 where
  a : Lines
  b : Lines
  claim : Claim
  from_a : ra ≡ Ok a
  from_b : rb ≡ Ok b
  from_claim : rc ≡ Ok claim
  legal : IsPairLegal a b
  verdict : IsVerdict (journals_of a b) skew transit claim Accepted

parts_over : (a b : Lines) (claim : Claim) (skew transit : ℕ) → IsVerdictOfJournals a b skew transit claim Accepted
    → Parts (Ok a) (Ok b) (Ok claim) skew transit
parts_over a b claim skew transit (inl h) = absurd (refused_not_accepted a b h)
parts_over a b claim skew transit (inr h) =
    record { a = a; b = b; claim = claim; from_a = refl; from_b = refl; from_claim = refl; legal = h.0; verdict = h.1 }

parts_of : (ra rb : Result Lines JournalFault) (rc : Result Claim CertificateFault) (skew transit : ℕ)
    → IsVerdictOfParsed ra rb skew transit rc Accepted → Parts ra rb rc skew transit
parts_of (Ok a) (Ok b) (Ok claim) skew transit h = parts_over a b claim skew transit h
parts_of (Ok a) (Ok b) (Err f) skew transit h = absurd (cc)
parts_of (Ok a) (Err f) rc skew transit h = absurd (cc)
parts_of (Err f) rb rc skew transit h = absurd (cc)

module _ (sides : SideGivesWhatItSpells) (claims : CertificatesAreSpelled) (accepts : AcceptsTheAccepted) where
  accepted_of : (a b certificate : List ℕ) (skew transit : ℕ) → IsVerdictOfTexts a b certificate skew transit Accepted
      → AreAccepted a b certificate skew transit
  accepted_of a b certificate skew transit h =
      let p = parts_of (journal_of_side Primary a) (journal_of_side Secondary b)
      (certificate_of certificate) skew transit h in
      let x = (sides Primary a p.a).0 p.from_a in
      let y = (sides Secondary b p.b).0 p.from_b in
      let z = (claims certificate p.claim).0 p.from_claim in
      record {
        primary = p.a;
        secondary = p.b;
        claim = p.claim;
        primary_spelled = record { written = x.0; role = x.1; spelled = x.2 };
        secondary_spelled = record { written = y.0; role = y.1; spelled = y.2 };
        claim_spelled = record { written = z.0; spelled = z.1 };
        legal = p.legal;
        accepted = (accepts (journals_of p.a p.b) skew transit p.claim).0 p.verdict;
      }

  of_accepted : (a b certificate : List ℕ) (skew transit : ℕ) → AreAccepted a b certificate skew transit
      → IsVerdictOfTexts a b certificate skew transit Accepted
  of_accepted a b certificate skew transit h =
      let x = side_read sides Primary a h.primary h.primary_spelled in
      let y = side_read sides Secondary b h.secondary h.secondary_spelled in
      let z : certificate_of certificate ≡ Ok h.claim =
      (claims certificate h.claim).1 (h.claim_spelled.written, h.claim_spelled.spelled) in
      rw (x, y, z) (inr (h.legal, (accepts (journals_of h.primary h.secondary) skew transit h.claim).1 h.accepted))

  pub texts_accept : TextsAcceptTheAccepted
  texts_accept a b certificate skew transit =
      (accepted_of a b certificate skew transit, of_accepted a b certificate skew transit)

module _ (broken : LegalIsUnbroken) (first : OneFirstBroken) (answers : AnswerIsOne) (placed : PlacedOnce)
    (one : OneVerdict) where
  once_over : (a b : Lines) (claim : Claim) (skew transit : ℕ) (v w : Verdict)
      → IsVerdictOfJournals a b skew transit claim v → IsVerdictOfJournals a b skew transit claim w → v ≡ w
  once_over a b claim skew transit v w (inl h) (inl g) = refused_once broken first answers placed a b v w h g
  once_over a b claim skew transit v w (inl h) (inr g) = absurd (legal_not broken first answers placed a b v g.0 h)
  once_over a b claim skew transit v w (inr h) (inl g) = absurd (legal_not broken first answers placed a b w h.0 g)
  once_over a b claim skew transit v w (inr h) (inr g) = one (journals_of a b) skew transit claim v w h.1 g.1

  once_parsed : (ra rb : Result Lines JournalFault) (rc : Result Claim CertificateFault) (skew transit : ℕ)
      (v w : Verdict)
      → IsVerdictOfParsed ra rb skew transit rc v → IsVerdictOfParsed ra rb skew transit rc w → v ≡ w
  once_parsed (Ok a) (Ok b) (Ok claim) skew transit v w h g = once_over a b claim skew transit v w h g
  once_parsed (Ok a) (Ok b) (Err f) skew transit v w h g = h ∙ sym g
  once_parsed (Ok a) (Err f) rc skew transit v w h g = h ∙ sym g
  once_parsed (Err f) rb rc skew transit v w h g = h ∙ sym g

  pub one_text_verdict : OneTextVerdict
  one_text_verdict a b certificate skew transit v w h g =
      once_parsed (journal_of_side Primary a) (journal_of_side Secondary b)
      (certificate_of certificate) skew transit v w h g
