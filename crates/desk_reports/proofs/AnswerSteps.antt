-- One answer more in an object.
use Rattle.std.specs.Prelude.{◌≡◌, ℕ, ◌+◌, ◌<◌, List, ◌∷◌, length, drop, get_or}
use Rattle.std.proofs.Common.{add-one, ap, drop-cons}
use Rattle.std.specs.declared.path.buf.PathBuf.{PathBuf}
use Rattle.pair_judgement.specs.declared.judging.Judgement.{Judgement}
use Rattle.joined_evidence.specs.declared.stretches.SpannedStretch.{SpannedStretch}
use Rattle.joined_rulings.specs.declared.widest.CertificateRuling.{CertificateRuling}
use Rattle.answer_data.specs.Parts.{Said, with_ruling}
use Rattle.desk_reports.specs.Answers.{evidence_said, all_evidence, ruling_said, all_rulings, all_given}

next_left : {X : Type 0} (xs : List X) (i : ℕ) (d : X) → i < length xs → drop i xs ≡ get_or xs i d ∷ drop (i + 1) xs
next_left xs i d h = rw add-one (drop-cons xs i d h)

pub evidence_step : {A : Type 0} (names : List (PathBuf A)) (xs : List SpannedStretch) (i : ℕ) (d : SpannedStretch)
    (s : Said) → i < length xs
    → all_evidence names (drop i xs) s ≡ all_evidence names (drop (i + 1) xs) (evidence_said names (get_or xs i d) s)
evidence_step names xs i d s h = ap (λ (ys : List SpannedStretch). all_evidence names ys s) (next_left xs i d h)

pub ruling_step : (xs : List CertificateRuling) (i : ℕ) (d : CertificateRuling) (s : Said) → i < length xs
    → all_rulings (drop i xs) s ≡ all_rulings (drop (i + 1) xs) (ruling_said (get_or xs i d) s)
ruling_step xs i d s h = ap (λ (ys : List CertificateRuling). all_rulings ys s) (next_left xs i d h)

pub given_step : (xs : List Judgement) (i : ℕ) (d : Judgement) (s : Said) → i < length xs
    → all_given (drop i xs) s ≡ all_given (drop (i + 1) xs) (with_ruling (get_or xs i d) s)
given_step xs i d s h = ap (λ (ys : List Judgement). all_given ys s) (next_left xs i d h)
