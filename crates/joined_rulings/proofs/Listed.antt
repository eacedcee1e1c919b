-- Rulings, made and told of one behind the other.
use Rattle.std.specs.Prelude.{◌≡◌, ℕ, ◌+◌, ◌<◌, ◌≤◌, ◌++◌, List, [], ◌∷◌, length, drop, suc}
use Rattle.std.proofs.Common.{get_or, sym, ap, subst, append_assoc, append-nil, refl, arith}
use Rattle.std.specs.declared.path.buf.PathBuf.{PathBuf}
use Rattle.certificate.specs.Faults.{certificate_of}
use Rattle.journal_archive.specs.declared.archive.Archive.{Archive}
use Rattle.attribution_desk.specs.declared.certificates.CertificateText.{CertificateText}
use Rattle.attribution_desk.specs.Claims.{texts_of}
use Rattle.archive_desk.specs.declared.coverage_gaps.TimingBounds.{TimingBounds}
use Rattle.archive_desk.specs.declared.judging.ArchiveJudgement.{ArchiveJudgement}
use Rattle.archive_desk.specs.Certificates.{AreJudged}
use Rattle.archive_desk.specs.CommandOutputs.{Said}
use Rattle.archive_desk.proofs.Dropping.{drop_more, drop_end}
use Rattle.joined_rulings.specs.declared.widest.CertificateRuling.{CertificateRuling}
use Rattle.joined_rulings.specs.Rulings.{IsRulingOn, AreRulings}
use Rattle.joined_rulings.specs.Telling.{IsRulingMore, AreRulingsSaid}

module _ (had : ℕ → List ℕ → Type 0) (archive : Archive) (bounds : TimingBounds) where
  -- one ruling more
  pub one_ruled : (cs : List CertificateText) (owns : List ArchiveJudgement) (i : ℕ) (c : CertificateText)
      (own : ArchiveJudgement) (r : CertificateRuling) (rs new rest : List CertificateRuling)
      → i < length cs → c ≡ get_or cs i c → i < length owns → own ≡ get_or owns i own
      → IsRulingOn had archive bounds (certificate_of c.text.now) own r → new ≡ rs ++ r ∷ []
      → ((more : List CertificateRuling) → AreRulings had archive bounds (texts_of (drop i cs)) (drop i owns) more
      → AreRulings had archive bounds (texts_of cs) owns (rs ++ more))
      → AreRulings had archive bounds (texts_of (drop (i + 1) cs)) (drop (i + 1) owns) rest
      → AreRulings had archive bounds (texts_of cs) owns (new ++ rest)
  one_ruled cs owns i c own r rs new rest lt at lt_own at_own is made before left =
      let all : AreRulings had archive bounds (texts_of (c ∷ drop (i + 1) cs)) (own ∷ drop (i + 1) owns) (r ∷ rest) =
      (is, left) in
      let by_texts = subst (λ (xs : List CertificateText). AreRulings had archive bounds (texts_of xs)
      (own ∷ drop (i + 1) owns) (r ∷ rest)) (sym (drop_more cs i c lt at)) all in
      let by_owns = subst (λ (ys : List ArchiveJudgement). AreRulings had archive bounds (texts_of (drop i cs)) ys
      (r ∷ rest)) (sym (drop_more owns i own lt_own at_own)) by_texts in
      subst (λ (xs : List CertificateRuling). AreRulings had archive bounds (texts_of cs) owns (xs ++ rest)) (sym made)
      (subst (AreRulings had archive bounds (texts_of cs) owns) (sym (append_assoc rs (r ∷ []) rest))
      (before (r ∷ rest) by_owns))

  pub all_ruled : (cs : List CertificateText) (owns : List ArchiveJudgement) (i : ℕ) (rs : List CertificateRuling)
      → length cs ≤ i → length owns ≡ length cs
      → ((more : List CertificateRuling) → AreRulings had archive bounds (texts_of (drop i cs)) (drop i owns) more
      → AreRulings had archive bounds (texts_of cs) owns (rs ++ more))
      → AreRulings had archive bounds (texts_of cs) owns rs
  all_ruled cs owns i rs le same before =
      let none_left = subst (λ (xs : List CertificateText). AreRulings had archive bounds (texts_of xs) [] [])
      (sym (drop_end cs i le)) tt in
      subst (AreRulings had archive bounds (texts_of cs) owns) (append-nil rs)
      (before [] (subst (λ (ys : List ArchiveJudgement). AreRulings had archive bounds (texts_of (drop i cs)) ys [])
      (sym (drop_end owns i (omega arith))) none_left))

-- each text was judged
pub as_many : (had : ℕ → List ℕ → Type 0) (archive : Archive) (skew transit : ℕ) (cs : List CertificateText)
    (js : List ArchiveJudgement) → AreJudged had archive skew transit (texts_of cs) js → length js ≡ length cs
as_many had archive skew transit [] [] are = refl
as_many had archive skew transit [] (j ∷ js) are = absurd are
as_many had archive skew transit (c ∷ cs) [] are = absurd are
as_many had archive skew transit (c ∷ cs) (j ∷ js) are = ap suc (as_many had archive skew transit cs js are.2)

-- one more is told of
pub one_said : {A : Type 0} (names : List (PathBuf A)) (rs : List CertificateRuling) (i : ℕ) (r : CertificateRuling)
    (before mid after : Said) → i < length rs → r ≡ get_or rs i r → IsRulingMore names r before mid
    → AreRulingsSaid names (drop (i + 1) rs) mid after → AreRulingsSaid names (drop i rs) before after
one_said names rs i r before mid after lt at more rest =
    subst (λ (xs : List CertificateRuling). AreRulingsSaid names xs before after) (sym (drop_more rs i r lt at))
    (mid, more, rest)
