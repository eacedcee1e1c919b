-- Judged certificates, one behind the other.
use Rattle.std.proofs.Common.{◌≡◌, ℕ, ◌+◌, ◌<◌, ◌≤◌, ◌++◌, List, [], ◌∷◌, Some, length, drop, get_or, suc, sym, subst, refl}
use Rattle.std.proofs.Common.{append_assoc, append-nil, inl, inr, ap, ◌∙◌}
use Rattle.std.specs.Prelude.{slice_get}
use Rattle.std.specs.declared.path.buf.PathBuf.{PathBuf}
use Rattle.certificate.specs.Faults.{certificate_of}
use Rattle.journal_archive.specs.declared.archive.Archive.{Archive}
use Rattle.archive_desk.specs.declared.judging.ArchiveJudgement.{ArchiveJudgement}
use Rattle.archive_desk.specs.declared.judging.PairWarnings.{PairWarnings}
use Rattle.archive_desk.specs.declared.waiting.PendingState.TheVariants.{Judged as IsJudgedAs}
use Rattle.archive_desk.specs.declared.waiting.PendingCertificate.{PendingCertificate}
use Rattle.archive_desk.specs.CommandOutputs.{Said}
use Rattle.archive_desk.specs.Waiting.{IsPending, AreWaiting, texts_waiting}
use Rattle.archive_desk.specs.Warnings.{IsWarnedOver, AreWarnings, warned, warned_all}
use Rattle.archive_desk.specs.Certificates.{IsJudgedMore, AreSaid, AreJudged, AreTaken}
use Rattle.archive_desk.proofs.Dropping.{drop_more, drop_end}
use Rattle.archive_desk.proofs.Pendings.{at_or}

-- one more was judged
pub one_taken : (ws : List PendingCertificate) (i : ℕ) (w : PendingCertificate) (j : ArchiveJudgement)
    (js new rest : List ArchiveJudgement) → i < length ws → w ≡ get_or ws i w → w.pending ≡ IsJudgedAs j
    → new ≡ js ++ j ∷ [] → ((more : List ArchiveJudgement) → AreTaken (drop i ws) more → AreTaken ws (js ++ more))
    → AreTaken (drop (i + 1) ws) rest → AreTaken ws (new ++ rest)
one_taken ws i w j js new rest lt at is made before left =
    let all = before (j ∷ rest) (subst (λ (xs : List PendingCertificate). AreTaken xs (j ∷ rest))
    (sym (drop_more ws i w lt at)) (is, left)) in
    subst (λ (xs : List ArchiveJudgement). AreTaken ws (xs ++ rest)) (sym made)
    (subst (AreTaken ws) (sym (append_assoc js (j ∷ []) rest)) all)

pub all_taken : (ws : List PendingCertificate) (i : ℕ) (js : List ArchiveJudgement) → length ws ≤ i
    → ((more : List ArchiveJudgement) → AreTaken (drop i ws) more → AreTaken ws (js ++ more)) → AreTaken ws js
all_taken ws i js le before =
    subst (AreTaken ws) (append-nil js)
    (before [] (subst (λ (xs : List PendingCertificate). AreTaken xs []) (sym (drop_end ws i le)) tt))

-- what was taken of those that waited is what is judged
pub taken_judged : (had : ℕ → List ℕ → Type 0) (archive : Archive) (skew transit : ℕ) (ws : List PendingCertificate)
    (js : List ArchiveJudgement) → AreWaiting had archive skew transit ws → AreTaken ws js
    → AreJudged had archive skew transit (texts_waiting ws) js
taken_judged had archive skew transit [] [] are taken = tt
taken_judged had archive skew transit [] (j ∷ js) are taken = absurd taken
taken_judged had archive skew transit (w ∷ ws) [] are taken = absurd taken
taken_judged had archive skew transit (w ∷ ws) (j ∷ js) are taken =
    let good = subst (IsPending had archive skew transit (certificate_of w.text.now)) taken.0 (are 0 w refl) in (
      good.0,
      good.1,
      taken_judged had archive skew transit ws js (λ k v at. are (suc k) v at) taken.1,
    )

-- one more is told of
pub one_said : {A : Type 0} (names : List (PathBuf A)) (js : List ArchiveJudgement) (i : ℕ) (j : ArchiveJudgement)
    (before mid after : Said) → i < length js → j ≡ get_or js i j → IsJudgedMore names j before mid
    → AreSaid names (drop (i + 1) js) mid after → AreSaid names (drop i js) before after
one_said names js i j before mid after lt at more rest =
    subst (λ (xs : List ArchiveJudgement). AreSaid names xs before after) (sym (drop_more js i j lt at))
    (mid, more, rest)

-- the warnings on one pair more
pub one_warned : (had : ℕ → List ℕ → Type 0) (skew transit : ℕ) (ws new : List PairWarnings) (w : PairWarnings)
    → AreWarnings had skew transit ws → IsWarnedOver had w.pair skew transit w.text.items → new ≡ ws ++ w ∷ []
    → AreWarnings had skew transit new
one_warned had skew transit ws new w are over is k v at =
    elim (at_or ws w v k (subst (λ (xs : List PairWarnings). slice_get xs k ≡ Some v) is at)) [
      | inl old ↦ are k v old
      | inr e ↦ subst (λ (x : PairWarnings). IsWarnedOver had x.pair skew transit x.text.items) e.1 over
    ]

-- ---- warnings, as they are written

pub begun_all : {A : Type 0} (names : List (PathBuf A)) (ws : List PairWarnings) (out : List ℕ) → out ≡ []
    → out ++ warned_all names ws ≡ warned_all names ws
begun_all names ws out none = ap (λ (x : List ℕ). x ++ warned_all names ws) none

pub one_more_warned : {A : Type 0} (names : List (PathBuf A)) (ws : List PairWarnings) (i : ℕ) (w : PairWarnings)
    (out new : List ℕ) → i < length ws → w ≡ get_or ws i w → new ≡ out ++ warned names w
    → out ++ warned_all names (drop i ws) ≡ warned_all names ws
    → new ++ warned_all names (drop (i + 1) ws) ≡ warned_all names ws
one_more_warned names ws i w out new lt at made h =
    let rest = warned_all names (drop (i + 1) ws) in
    ap (λ (x : List ℕ). x ++ rest) made
    ∙ (append_assoc out (warned names w) rest
    ∙ (sym (ap (λ (xs : List PairWarnings). out ++ warned_all names xs) (drop_more ws i w lt at)) ∙ h))

pub all_warned : {A : Type 0} (names : List (PathBuf A)) (ws : List PairWarnings) (i : ℕ) (out : List ℕ)
    → length ws ≤ i → out ++ warned_all names (drop i ws) ≡ warned_all names ws → out ≡ warned_all names ws
all_warned names ws i out le h =
    sym (append-nil out)
    ∙ (sym (ap (λ (xs : List PairWarnings). out ++ warned_all names xs) (drop_end ws i le)) ∙ h)
