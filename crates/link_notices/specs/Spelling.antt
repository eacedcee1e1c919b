-- The texts of notices: words with one space between each two, of which the first says what it is about. Skew and
-- transit are milliseconds, mclt and life seconds, readings milliseconds since 1970 UTC.
use Rattle.std.specs.Prelude.{ℕ, ◌^◌, ◌<◌, ◌≤◌, List, [], ◌∷◌, length, codes}
use Rattle.std.specs.List.{flat_map, AllByRecursion}
use Rattle.std.specs.Fmt.{decimal}
use Rattle.text_fields.specs.Cuts.{joined}
use Rattle.prefix_range.specs.Text.{prefix_text}
use Rattle.prefix_range.specs.Prefix.{IsPrefix}
use Rattle.link_notices.specs.declared.words.TheConstants.{SPACE}
use Rattle.link_notices.specs.declared.notice.UnitPool.{UnitPool}
use Rattle.link_notices.specs.declared.notice.PairSettings.{PairSettings}
use Rattle.link_notices.specs.declared.notice.Notice.{Notice}
use Rattle.link_notices.specs.declared.notice.Notice.TheVariants.{Program, Settings, Clock, ClockReply}
use Rattle.link_notices.specs.Words.{IsProgramWord}

-- a pool, and how long its units are
abbrev pub pool_words : UnitPool → List (List ℕ)
pool_words p = prefix_text p.prefix ∷ decimal p.unit_length ∷ []

abbrev pub settings_words : PairSettings → List (List ℕ)
settings_words s =
    decimal s.skew ∷ decimal s.mclt ∷ decimal s.life ∷ decimal s.transit ∷ flat_map pool_words s.pools

abbrev pub notice_name : Notice → List ℕ
notice_name (Program name version) = codes "program"
notice_name (Settings s) = codes "settings"
notice_name (Clock number asked) = codes "clock"
notice_name (ClockReply number asked answered) = codes "clock-reply"

-- the words behind the first
abbrev pub notice_values : Notice → List (List ℕ)
notice_values (Program name version) = name ∷ version ∷ []
notice_values (Settings s) = settings_words s
notice_values (Clock number asked) = decimal number ∷ decimal asked ∷ []
notice_values (ClockReply number asked answered) = decimal number ∷ decimal asked ∷ decimal answered ∷ []

abbrev pub notice_text : Notice → List ℕ
notice_text n = joined SPACE (notice_name n ∷ notice_values n)

-- ---- the notices that have a text

pub record IsPool (p : UnitPool) : Type 0 where
  pub prefix : IsPrefix p.prefix
  pub longer : p.prefix.length ≤ p.unit_length
  pub short : p.unit_length ≤ 128

pub record IsPairSettings (s : PairSettings) : Type 0 where
  pub skew : s.skew ≤ 86400000
  pub mclt : s.mclt < 2 ^ 32
  pub life : s.life < 2 ^ 32
  pub transit : s.transit ≤ 3600000
  pub each : AllByRecursion IsPool s.pools
  pub some : 1 ≤ length s.pools
  pub few : length s.pools ≤ 16

abbrev pub IsNotice : Notice → Type 0
IsNotice (Program name version) = IsProgramWord name × IsProgramWord version
IsNotice (Settings s) = IsPairSettings s
IsNotice (Clock number asked) = (number < 2 ^ 64) × (asked ≤ 2 ^ 48)
IsNotice (ClockReply number asked answered) = (number < 2 ^ 64) × (asked ≤ 2 ^ 48) × (answered ≤ 2 ^ 48)
