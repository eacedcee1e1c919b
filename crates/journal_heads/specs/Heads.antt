-- What the heads of journals say of their servers' clocks and answers.
use Rattle.std.specs.Prelude.{◌≡◌, ◌≢◌, ◌<◌, ◌≤◌, ℕ, Bool, true, false, List, [], ◌∷◌, Option, Some, None, if◌then◌else◌}
use Rattle.std.specs.Prelude.{nat_le, option_map, ⊤}
use Rattle.journal_archive.specs.declared.settings.SettingLine.{SettingLine}
use Rattle.journal_archive.specs.declared.settings.SettingLine.TheVariants.{Open, Pool, Transit}
use Rattle.journal_archive.specs.Settings.{settings_in}
use Rattle.journal_archive.specs.Beginning.{IsHeaded}
use Rattle.archive_files.specs.Parts.{IsBeginning}
use Rattle.desk_args.specs.declared.bounds.HeadBounds.{HeadBounds}
use Rattle.journal_heads.specs.declared.fault.HeadsFault.{HeadsFault}
use Rattle.journal_heads.specs.declared.fault.HeadsFault.TheVariants.{Differ, Silent, Memory}

-- the skew of the first open line, of a day at most
unfoldable pub skew_of : List SettingLine → Option ℕ
skew_of [] = None
skew_of (Open skew mclt life ∷ settings) = if nat_le skew 86400000 then Some skew else None
skew_of (Pool prefix unit_length ∷ settings) = skew_of settings
skew_of (Transit transit ∷ settings) = skew_of settings

-- the transit of the first transit line, or none
unfoldable pub transit_of : List SettingLine → ℕ
transit_of [] = 0
transit_of (Transit transit ∷ settings) = transit
transit_of (Open skew mclt life ∷ settings) = transit_of settings
transit_of (Pool prefix unit_length ∷ settings) = transit_of settings

-- both
abbrev pub bounds_of : List SettingLine → Option HeadBounds
bounds_of settings = option_map (λ skew. record { skew = skew; transit = transit_of settings }) (skew_of settings)

-- the octets begin as a journal's, with settings that say these bounds, and a line behind them
pub record AreBoundsIn (octets : List ℕ) (bounds : HeadBounds) : Type 0 where
  pub headed : IsHeaded octets
  pub settings : List SettingLine
  pub settings_are : settings_in octets ≡ Some settings
  pub bounds_are : bounds_of settings ≡ Some bounds

-- the file began so
pub record SaysBounds (had : List ℕ → Type 0) (bounds : HeadBounds) : Type 0 where
  pub beginning : List ℕ
  pub began : IsBeginning had beginning
  pub said : AreBoundsIn beginning bounds

-- some of the files says these bounds
pub record IsSaid (had : ℕ → List ℕ → Type 0) (files : ℕ) (bounds : HeadBounds) : Type 0 where
  pub file : ℕ
  pub is_one : file < files
  pub says : SaysBounds (had file) bounds

-- two of the files say bounds that differ
pub record AreDifferent (had : ℕ → List ℕ → Type 0) (files first second : ℕ) : Type 0 where
  pub one : HeadBounds
  pub other : HeadBounds
  pub is_one : first < files
  pub is_other : second < files
  pub says : SaysBounds (had first) one
  pub says_other : SaysBounds (had second) other
  pub differ : one ≢ other

-- why there are none
abbrev pub IsWhyNot : (ℕ → List ℕ → Type 0) → (files : ℕ) → HeadsFault → Type 0
IsWhyNot had files (Differ first second) = AreDifferent had files first second
IsWhyNot had files Silent = ⊤
IsWhyNot had files Memory = ⊤
