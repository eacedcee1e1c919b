-- What ties the volumes of files together: the settings that their first lines say.
use Rattle.std.specs.Prelude.{◌≡◌, ◌≢◌, ℕ, ◌⊎◌, ⊤, List, Option, Some, None}
use Rattle.binding_rules.specs.declared.role.Role.{Role}
use Rattle.binding_rules.specs.declared.role.Role.TheVariants.{Primary, Secondary}
use Rattle.journal_archive.specs.declared.outline.FiledVolume.{FiledVolume}
use Rattle.journal_archive.specs.declared.settings.SettingLine.{SettingLine}
use Rattle.journal_archive.specs.Settings.{settings_in}
use Rattle.archive_files.specs.Parts.{IsBeginning}
use Rattle.archive_files.specs.Catalogues.{IsIn}
use Rattle.archive_files.specs.declared.settings_check.SettingsScope.{SettingsScope}
use Rattle.archive_files.specs.declared.settings_check.SettingsScope.TheVariants.{OfBoth, OfEach}

-- the file began with these settings, and a line behind them; or all that it had says none yet
abbrev pub IsSetUp : (List ℕ → Type 0) → Option (List SettingLine) → Type 0
IsSetUp had (Some settings) =
    (beginning : List ℕ) × IsBeginning had beginning × (settings_in beginning ≡ Some settings)
IsSetUp had None = (octets : List ℕ) × had octets × (settings_in octets ≡ None)

-- the file says these settings, or none yet
abbrev pub SaysNoOther : (List ℕ → Type 0) → List SettingLine → Type 0
SaysNoOther had settings =
    (told : Option (List SettingLine)) × IsSetUp had told × ((told ≡ None) ⊎ (told ≡ Some settings))

-- the volume is of the side, where one is named
abbrev pub IsOfSide : Option Role → FiledVolume → Type 0
IsOfSide None v = ⊤
IsOfSide (Some side) v = v.outline.side ≡ side

-- the files of the side's volumes say these settings
abbrev pub AreSetUp : (ℕ → List ℕ → Type 0) → Option Role → List FiledVolume → List SettingLine → Type 0
AreSetUp had side vs settings = (v : FiledVolume) → IsIn vs v → IsOfSide side v → SaysNoOther (had v.file) settings

-- all of these volumes say the same settings, or those of each side do
abbrev pub AreTiedBy : (ℕ → List ℕ → Type 0) → SettingsScope → List FiledVolume → Type 0
AreTiedBy had OfBoth vs = (settings : List SettingLine) × AreSetUp had None vs settings
AreTiedBy had OfEach vs =
    ((settings : List SettingLine) × AreSetUp had (Some Primary) vs settings)
    × ((settings : List SettingLine) × AreSetUp had (Some Secondary) vs settings)

-- the volumes of both sides say the same settings, or those of each side
abbrev pub AreTied : (ℕ → List ℕ → Type 0) → SettingsScope → (primary secondary : List FiledVolume) → Type 0
AreTied had OfBoth primary secondary =
    (settings : List SettingLine) × AreSetUp had None primary settings × AreSetUp had None secondary settings
AreTied had OfEach primary secondary =
    ((settings : List SettingLine) × AreSetUp had None primary settings)
    × ((settings : List SettingLine) × AreSetUp had None secondary settings)

-- the two files say settings that differ
abbrev pub AreOfTwoPairs : (ℕ → List ℕ → Type 0) → (first second : ℕ) → Type 0
AreOfTwoPairs had first second =
    (settings : List SettingLine) × (other : List SettingLine) × IsSetUp (had first) (Some settings)
    × IsSetUp (had second) (Some other) × (settings ≢ other)
