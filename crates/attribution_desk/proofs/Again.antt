-- What is found, as its text is read again.
use Rattle.std.specs.Prelude.{◌≡◌, ◌↔◌, ℕ, ◌+◌, ◌<◌, ◌≤◌, List, Bool, true, false, IsTrue, Ok, Result}
use Rattle.std.proofs.Common.{sym, ap, subst, ◌∙◌}
use Rattle.causal_order.specs.declared.certificate.Certificate.{Certificate}
use Rattle.causal_order.specs.declared.fault.CertificateFault.{CertificateFault}
use Rattle.causal_order.specs.Journals.{Journals}
use Rattle.certificate.specs.Spelling.{certificate_text}
use Rattle.certificate.specs.Faults.{certificate_of}
use Rattle.attribution.specs.declared.verdict.Verdict.TheVariants.{Accepted}
use Rattle.attribution.specs.FirstRefusal.{IsVerdict}
use Rattle.plain_search.specs.declared.query.Query.{Query}
use Rattle.plain_search.specs.declared.query.HolderQuery.{HolderQuery}
use Rattle.evidence_search.specs.Claim.{Claims, between, held_by, IsNotTold, IsRound, IsWidest}
use Rattle.attribution_desk.specs.Find.{ClaimSame, IsReadAgain, IsOverLimits, IsFound}
use Rattle.attribution_desk.specs.Who.{IsHeld}

one_again : (r : Result Certificate CertificateFault) (c d : Certificate) → r ≡ Ok c → r ≡ Ok d → c ≡ d
one_again r c d is at = let e = sym is ∙ at in cc

pub not_again : (js : Journals) (skew transit : ℕ) (found c : Certificate) (text : List ℕ) (b : Bool)
    → certificate_of text ≡ Ok c → text ≡ certificate_text found
    → IsTrue b ↔ (ClaimSame c found × IsVerdict js skew transit c Accepted) → b ≡ false
    → IsOverLimits js skew transit found
not_again js skew transit found c text b read spelled decides isnt again h =
    let same : again ≡ c = one_again (certificate_of text) again c
    (ap certificate_of spelled ∙ h.read) read in
    let yes : b ≡ true = decides.1 (
      subst (λ d. ClaimSame d found) same h.same,
      subst (λ d. IsVerdict js skew transit d Accepted) same h.verdict,
    ) in
    absurd (cc)

pub finding : (js : Journals) (q : Query) (found again : Certificate) → Claims q found
    → IsReadAgain js q.skew q.transit found again → IsFound js q again
finding js q found again claims h = record {
  claims = record {
    holder = h.same.0 ∙ claims.holder;
    prefix = h.same.1 ∙ claims.prefix;
    from = h.same.2 ∙ claims.from;
    to = h.same.3 ∙ claims.to;
  };
  shown = record { verdict = h.verdict };
  read = ap certificate_of (sym h.spelled) ∙ h.read;
}

widest_again : (js : Journals) (q : HolderQuery) (found again : Certificate) → ClaimSame again found
    → IsWidest js q found → IsWidest js q again
widest_again js q found again same w = record {
  from = λ m is. subst (λ h. IsNotTold js (between (held_by q h) m (q.at + 1))) (sym same.0)
      (w.from m (is ∙ same.2));
  to = subst (λ h. IsNotTold js (between (held_by q h) again.from (again.to + 1))) (sym same.0)
      (subst (λ f. IsNotTold js (between (held_by q found.holder) f (again.to + 1))) (sym same.2)
      (subst (λ t. IsNotTold js (between (held_by q found.holder) found.from (t + 1))) (sym same.3) w.to));
}

pub holding : (js : Journals) (q : HolderQuery) (found again : Certificate) → IsRound q found → IsWidest js q found
    → IsReadAgain js q.skew q.transit found again → IsHeld js q again
holding js q found again round widest h = record {
  round = record {
    prefix = h.same.1 ∙ round.prefix;
    from = subst (λ f. f ≤ q.at) (sym h.same.2) round.from;
    to = subst (λ t. q.at < t) (sym h.same.3) round.to;
  };
  shown = record { verdict = h.verdict };
  widest = widest_again js q found again h.same widest;
  read = ap certificate_of (sym h.spelled) ∙ h.read;
}
