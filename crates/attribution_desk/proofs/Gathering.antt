-- What texts were read to, gathered, and the rulings on them.
use Rattle.std.proofs.Common.{◌≡◌, ℕ, suc, List, [], ◌∷◌, ◌++◌, length, take, replicate, Option, Some, None, Result, Ok}
use Rattle.std.proofs.Common.{Err, refl, sym, ap, subst, ◌∙◌, append_assoc, append-nil, arith}
use Rattle.std.proofs.Math.Path.{subst₂}
use Rattle.std.proofs.Math.Seq.{take-append_seam}
use Rattle.std.proofs.lemmas.List.Elements.{All-head, All-tail}
use Rattle.journal_lines.specs.declared.line.Journal.{Journal}
use Rattle.journal_lines.specs.declared.fault.JournalFault.{JournalFault}
use Rattle.binding_rules.specs.declared.role.Role.TheVariants.{Primary, Secondary}
use Rattle.causal_order.specs.declared.certificate.Certificate.{Certificate}
use Rattle.causal_order.specs.declared.fault.CertificateFault.{CertificateFault}
use Rattle.certificate.specs.declared.error.CertificateError.TheVariants.{Fault}
use Rattle.pair_judgement.specs.declared.judging.Judgement.{Judgement}
use Rattle.pair_judgement.specs.declared.judging.Judgement.TheVariants.{Verdict}
use Rattle.attribution.specs.declared.verdict.Verdict.TheVariants.{Journal as JournalVerdict}
use Rattle.attribution_desk.specs.declared.certificates.CertificateText.{CertificateText}
use Rattle.attribution_desk.specs.Batch.{AreTexts, AreRuled, AreRulings}
use Rattle.attribution_desk.specs.Claims.{texts_of, IsReadTo, AreRead, AreGathered, AreRuledOn, woven}
use Rattle.attribution_desk.proofs.Batches.{all_of_fault_a, all_of_fault_b, all_woven}

-- ---- texts that were read, one after another

-- what is gathered of the rest goes behind these, and is then what is gathered of the whole
abbrev pub GathersOn : List CertificateText → List CertificateText → List (Option CertificateFault) → List Certificate → Type 0
GathersOn whole rest faults certificates =
    (fs : List (Option CertificateFault)) (cs : List Certificate) → AreGathered (texts_of rest) fs cs
    → AreGathered (texts_of whole) (faults ++ fs) (certificates ++ cs)

pub gathers_first : (whole rest : List CertificateText) (faults : List (Option CertificateFault))
    (certificates : List Certificate) → rest ≡ whole → faults ≡ [] → certificates ≡ []
    → GathersOn whole rest faults certificates
gathers_first whole rest faults certificates same f c fs cs h =
    subst₂ (λ (x : List (Option CertificateFault)) (y : List Certificate). AreGathered (texts_of whole) (x ++ fs) (y
    ++ cs)) (sym f) (sym c)
    (subst (λ (r : List CertificateText). AreGathered (texts_of r) fs cs) same h)

longer_by : {X : Type 0} (xs longer : List X) (x : X) (ys : List X) → longer ≡ xs ++ x ∷ []
    → xs ++ x ∷ ys ≡ longer ++ ys
longer_by {X} xs longer x ys e = sym (append_assoc xs (x ∷ []) ys) ∙ ap (λ (t : List X). t ++ ys) (sym e)

module _ (whole rest others : List CertificateText) (claim : CertificateText) (faults longer : List (Option CertificateFault))
    (certificates : List Certificate) (front : rest ≡ claim ∷ others)
    (on : GathersOn whole rest faults certificates) where
  pub gathers_certificate : (more : List Certificate) (certificate : Certificate) → AreRead rest
      → claim.parsed ≡ Some (Ok certificate) → longer ≡ faults ++ None ∷ [] → more ≡ certificates ++ certificate ∷ []
      → GathersOn whole others longer more
  gathers_certificate more certificate read parsed f m fs cs h =
      let reads = subst (IsReadTo claim.text.now) parsed
      (All-head (λ (c : CertificateText). IsReadTo c.text.now c.parsed) claim others (subst AreRead front read)) in
      subst₂ (AreGathered (texts_of whole)) (longer_by faults longer None fs f)
      (longer_by certificates more certificate cs m)
      (on (None ∷ fs) (certificate ∷ cs) (subst (λ (r : List CertificateText).
      AreGathered (texts_of r) (None ∷ fs) (certificate ∷ cs)) (sym front) (reads, h)))

  pub gathers_fault : (fault : CertificateFault) → AreRead rest → claim.parsed ≡ Some (Err (Fault fault))
      → longer ≡ faults ++ Some fault ∷ [] → GathersOn whole others longer certificates
  gathers_fault fault read parsed f fs cs h =
      let reads = subst (IsReadTo claim.text.now) parsed
      (All-head (λ (c : CertificateText). IsReadTo c.text.now c.parsed) claim others (subst AreRead front read)) in
      subst (λ (x : List (Option CertificateFault)). AreGathered (texts_of whole) x (certificates ++ cs))
      (longer_by faults longer (Some fault) fs f)
      (on (Some fault ∷ fs) cs (subst (λ (r : List CertificateText). AreGathered (texts_of r) (Some fault ∷ fs) cs) (sym front)
      (reads, h)))

pub read_on : (rest others : List CertificateText) (claim : CertificateText) → rest ≡ claim ∷ others → AreRead rest → AreRead others
read_on rest others claim front read = All-tail (λ (c : CertificateText). IsReadTo c.text.now c.parsed) claim others
    (subst AreRead front read)

pub gathers_all : (whole rest : List CertificateText) (faults : List (Option CertificateFault)) (certificates : List Certificate)
    → length rest ≡ 0 → GathersOn whole rest faults certificates → AreGathered (texts_of whole) faults certificates
gathers_all whole [] faults certificates none on =
    subst₂ (AreGathered (texts_of whole)) (append-nil faults) (append-nil certificates) (on [] [] tt)
gathers_all whole (claim ∷ rest) faults certificates none on = absurd (omega (arith, none))

-- ---- the rulings on them

count_of : (claims : List CertificateText) → length (texts_of claims) ≡ length claims
count_of [] = refl
count_of (claim ∷ claims) = ap suc (count_of claims)

-- of a list whose slice was written over
pub written_over : (new old tail : List CertificateText) (n : ℕ) → n ≡ length old → texts_of new ≡ texts_of old
    → texts_of (take n (new ++ tail)) ≡ texts_of old
written_over new old tail n count same =
    let whole : n ≡ length new = count ∙ (sym (count_of old)
    ∙ (ap (λ (ts : List (List ℕ)). length ts) (sym same) ∙ count_of new)) in
    subst (λ (k : ℕ). texts_of (take k (new ++ tail)) ≡ texts_of old) (sym whole)
    (ap (λ (cs : List CertificateText). texts_of cs) (take-append_seam new tail) ∙ same)

module _ (a b : Result Journal JournalFault) (rest : List ℕ) (skew transit : ℕ) (claims : List CertificateText)
    (texts : AreTexts rest (texts_of claims)) where
  same_count : (n : ℕ) (v : Judgement) (vs : List Judgement) → n ≡ length claims → vs ≡ replicate n v
      → replicate (length (texts_of claims)) v ≡ vs
  same_count n v vs count all = ap (λ (k : ℕ). replicate k v) (count_of claims ∙ sym count) ∙ sym all

  pub refused_by_a : (fault : JournalFault) (n : ℕ) (vs : List Judgement) → a ≡ Err fault → n ≡ length claims
      → vs ≡ replicate n (Verdict (JournalVerdict Primary fault)) → AreRulings a b rest skew transit vs
  refused_by_a fault n vs is count all = (
    texts_of claims,
    texts,
    subst₂ (λ (x : Result Journal JournalFault) (y : List Judgement).
        AreRuled x b skew transit (texts_of claims) y) (sym is)
        (same_count n (Verdict (JournalVerdict Primary fault)) vs count all)
        (all_of_fault_a fault b skew transit (texts_of claims)),
  )

  module _ (journal_a : Journal) (is_a : a ≡ Ok journal_a) where
    pub refused_by_b : (fault : JournalFault) (n : ℕ) (vs : List Judgement) → b ≡ Err fault → n ≡ length claims
        → vs ≡ replicate n (Verdict (JournalVerdict Secondary fault)) → AreRulings a b rest skew transit vs
    refused_by_b fault n vs is count all =
        let of_b = subst₂ (λ (x : Result Journal JournalFault) (y : List Judgement).
        AreRuled (Ok journal_a) x skew transit (texts_of claims) y) (sym is)
        (same_count n (Verdict (JournalVerdict Secondary fault)) vs count all)
        (all_of_fault_b journal_a fault skew transit (texts_of claims)) in (
          texts_of claims,
          texts,
          subst (λ (x : Result Journal JournalFault).
              AreRuled x b skew transit (texts_of claims) vs) (sym is_a) of_b,
        )

    pub ruled_by_both : (journal_b : Journal) (vs : List Judgement) → b ≡ Ok journal_b
        → AreRuled (Ok journal_a) (Ok journal_b) skew transit (texts_of claims) vs → AreRulings a b rest skew transit vs
    ruled_by_both journal_b vs is_b ruled = (
      texts_of claims,
      texts,
      subst₂ (λ (x : Result Journal JournalFault) (y : Result Journal JournalFault). AreRuled x y skew transit
          (texts_of claims) vs) (sym is_a) (sym is_b) ruled,
    )

-- what was read of texts, ruled on over two journals
pub texts_ruled : (a b : Journal) (skew transit : ℕ) (claims read : List CertificateText)
    (faults : List (Option CertificateFault)) (certificates : List Certificate) (audited vs : List Judgement)
    → texts_of read ≡ texts_of claims → AreGathered (texts_of read) faults certificates
    → AreRuledOn a b skew transit certificates audited → vs ≡ woven faults audited
    → AreRuled (Ok a) (Ok b) skew transit (texts_of claims) vs
texts_ruled a b skew transit claims read faults certificates audited vs same gathered judged all =
    subst (AreRuled (Ok a) (Ok b) skew transit (texts_of claims)) (sym all)
    (all_woven a b skew transit (texts_of claims) faults certificates audited
    (subst (λ (ts : List (List ℕ)). AreGathered ts faults certificates) same gathered) judged)
