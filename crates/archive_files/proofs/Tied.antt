-- What ties the volumes of files together, one file after the other.
use Rattle.std.specs.Prelude.{◌≡◌, ◌≢◌, ℕ, ◌<◌, ◌≤◌, List, [], Option, Some, None, slice_get, length}
use Rattle.std.proofs.Common.{arith, inl, refl, subst}
use Rattle.binding_rules.specs.declared.role.Role.{Role}
use Rattle.binding_rules.specs.declared.role.Role.TheVariants.{Primary, Secondary}
use Rattle.journal_archive.specs.declared.outline.FiledVolume.{FiledVolume}
use Rattle.journal_archive.specs.VolumeLists.{IsVolumeListOf}
use Rattle.journal_archive.proofs.Among.{within}
use Rattle.journal_archive.specs.declared.settings.SettingLine.{SettingLine}
use Rattle.archive_files.specs.declared.error.FilesError.TheVariants.{OtherPair}
use Rattle.archive_files.specs.declared.settings_check.SettingsScope.{SettingsScope}
use Rattle.archive_files.specs.declared.settings_check.SettingsScope.TheVariants.{OfBoth, OfEach}
use Rattle.archive_files.specs.Ties.{IsSetUp, IsOfSide, AreSetUp, AreTied, AreTiedBy, AreOfTwoPairs}

-- the two that differ are those that are named
pub two_pairs : (had : ℕ → List ℕ → Type 0) (one other first second : ℕ) (settings said : List SettingLine)
    → OtherPair one other ≡ OtherPair first second → IsSetUp (had one) (Some settings)
    → IsSetUp (had other) (Some said) → settings ≢ said → AreOfTwoPairs had first second
two_pairs had one other first second settings said e own has differ =
    let a : one ≡ first = cc in
    let b : other ≡ second = cc in (
      settings,
      said,
      subst (λ n. IsSetUp (had n) (Some settings)) a own,
      subst (λ n. IsSetUp (had n) (Some said)) b has,
      differ,
    )

-- none of them says settings yet
pub none_says : (had : ℕ → List ℕ → Type 0) (side : Option Role) (vs : List FiledVolume) (count : ℕ) → length vs ≤ count
    → ((k : ℕ) (v : FiledVolume) → k < count → slice_get vs k ≡ Some v → IsOfSide side v → IsSetUp (had v.file) None)
    → AreSetUp had side vs []
none_says had side vs count le all v a of =
    let lt = within vs v a.0 a.1 in
    (None, all a.0 v (omega arith) a.1 of, inl refl)

-- what is so of files is so of the shelves of their volumes
on_shelf : (had : ℕ → List ℕ → Type 0) (side : Role) (whose : Option Role) (files vs : List FiledVolume)
    (settings : List SettingLine) → IsVolumeListOf side files vs
    → ((v : FiledVolume) → v.outline.side ≡ side → IsOfSide whose v) → AreSetUp had whose files settings
    → AreSetUp had None vs settings
on_shelf had side whose files vs settings shelf of are v a any =
    let r = shelf.each v a in
    are v r.0 (of v r.1)

pub shelves_tied : (had : ℕ → List ℕ → Type 0) (agreement : SettingsScope) (files primary secondary : List FiledVolume)
    → IsVolumeListOf Primary files primary → IsVolumeListOf Secondary files secondary → AreTiedBy had agreement files
    → AreTied had agreement primary secondary
shelves_tied had OfBoth files primary secondary one other tied = (
  tied.0,
  on_shelf had Primary None files primary tied.0 one (λ v is. tt) tied.1,
  on_shelf had Secondary None files secondary tied.0 other (λ v is. tt) tied.1,
)
shelves_tied had OfEach files primary secondary one other tied = (
  (tied.0.0, on_shelf had Primary (Some Primary) files primary tied.0.0 one (λ v is. is) tied.0.1),
  (tied.1.0, on_shelf had Secondary (Some Secondary) files secondary tied.1.0 other (λ v is. is) tied.1.1),
)
