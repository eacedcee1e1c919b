-- In which settings a server's settings differ from what its book was opened with.
use Rattle.std.specs.Prelude.{◌≢◌, ◌↔◌, Bool, IsTrue}
use Rattle.journal_lines.specs.declared.line.Journal.{Journal}
use Rattle.server_settings.specs.Settings.{ServerSettings}
use Rattle.server_start.specs.declared.setting.FixedSetting.{FixedSetting}
use Rattle.server_start.specs.declared.setting.FixedSetting.TheVariants.{Role, Pools, Skew, Mclt, Life, Transit}
use Rattle.server_start.specs.declared.setting.DifferingSettings.{DifferingSettings}
use Rattle.server_start.specs.Opening.{Opened, opened}

-- a setting isn't what the book was opened with; pools count in their order
abbrev pub Differs : ServerSettings → Opened → FixedSetting → Type 0
Differs s o Role = s.role ≢ o.role
Differs s o Pools = s.pools ≢ o.pools
Differs s o Skew = s.skew ≢ o.skew
Differs s o Mclt = s.mclt ≢ o.mclt
Differs s o Life = s.life ≢ o.life
Differs s o Transit = s.transit ≢ o.transit

-- whether a setting is named
abbrev pub names : DifferingSettings → FixedSetting → Bool
names d Role = d.role
names d Pools = d.pools
names d Skew = d.skew
names d Mclt = d.mclt
names d Life = d.life
names d Transit = d.transit

-- it names each setting that differs, and no other
abbrev pub NamesThose : ServerSettings → Opened → DifferingSettings → Type 0
NamesThose s o d = (x : FixedSetting) → IsTrue (names d x) ↔ Differs s o x

-- no setting differs
abbrev pub Agrees : ServerSettings → Journal → Type 0
Agrees s j = (x : FixedSetting) → Differs s (opened j) x → ⊥
