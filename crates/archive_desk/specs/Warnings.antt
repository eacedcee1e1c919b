-- The warnings on pairs of volumes over which certificates are judged.
use Rattle.std.specs.Prelude.{◌≡◌, ℕ, List, [], ◌∷◌, ◌++◌, Some, slice_get, flat_map}
use Rattle.std.specs.declared.path.buf.PathBuf.{PathBuf}
use Rattle.pair_judgement.specs.Ties.{IsWarning}
use Rattle.journal_archive.specs.declared.pair_lookup.VolumePair.{VolumePair}
use Rattle.journal_archive.specs.declared.pair.PairJournals.{PairJournals}
use Rattle.archive_files.specs.Showing.{AreShownBy}
use Rattle.archive_desk.specs.declared.judging.PairWarnings.{PairWarnings}
use Rattle.archive_desk.specs.Names.{journals_line}

-- the warnings on the journals that the two volumes show
abbrev pub IsWarnedOver : (had : ℕ → List ℕ → Type 0) → VolumePair → (skew transit : ℕ) → List ℕ → Type 0
IsWarnedOver had pair skew transit text =
    (shown : PairJournals) × AreShownBy had pair shown × IsWarning shown.primary shown.secondary skew transit text

-- each is of its pair
abbrev pub AreWarnings : (had : ℕ → List ℕ → Type 0) → (skew transit : ℕ) → List PairWarnings → Type 0
AreWarnings had skew transit ws =
    (k : ℕ) (w : PairWarnings) → slice_get ws k ≡ Some w → IsWarnedOver had w.pair skew transit w.text.items

-- ---- how they are written

-- behind the line that names the two files, where there are any
abbrev pub warned_by : {A : Type 0} → List (PathBuf A) → VolumePair → List ℕ → List ℕ
warned_by names pair [] = []
warned_by names pair (b ∷ text) = journals_line names pair ++ (b ∷ text)

abbrev pub warned : {A : Type 0} → List (PathBuf A) → PairWarnings → List ℕ
warned names w = warned_by names w.pair w.text.items

-- one behind the other
abbrev pub warned_all : {A : Type 0} → List (PathBuf A) → List PairWarnings → List ℕ
warned_all names ws = flat_map (λ w. warned names w) ws
