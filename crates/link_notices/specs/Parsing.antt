-- For bodies only: the words of a notice, one after another from the front.
use Rattle.std.specs.Prelude.{ℕ, ◌-◌, ◌^◌, ◌&&◌, Bool, nat_le, List, [], ◌∷◌, length, Option, Some, None, option_map}
use Rattle.std.specs.Prelude.{Result, Ok, Err, if◌then◌else◌, codes}
use Rattle.std.specs.Str.{bytes_eq}
use Rattle.text_fields.specs.Cuts.{split}
use Rattle.text_fields.specs.Parsing.{◌>>=◌, alone, first_word}
use Rattle.prefix_range.specs.Text.{prefix_word}
use Rattle.link_notices.specs.declared.words.TheConstants.{SPACE}
use Rattle.link_notices.specs.declared.notice.UnitPool.{UnitPool}
use Rattle.link_notices.specs.declared.error.NoticeError.{NoticeError}
use Rattle.link_notices.specs.declared.error.NoticeError.TheVariants as errors
use Rattle.link_notices.specs.declared.notice.PairSettings.{PairSettings}
use Rattle.link_notices.specs.declared.notice.Notice.{Notice}
use Rattle.link_notices.specs.declared.notice.Notice.TheVariants.{Program, Settings, Clock, ClockReply}
use Rattle.link_notices.specs.declared.reading.Spans.{Spans}
use Rattle.link_notices.specs.Words.{number_within, number_at, reading_at, is_program_word}

unfoldable pub program_word : List ℕ → Option (List ℕ)
program_word word = if is_program_word word then Some word else None

-- a program's name and version
unfoldable pub names_at : List (List ℕ) → Option ((List ℕ × List ℕ) × List (List ℕ))
names_at words = do
  name ← first_word program_word words
  version ← first_word program_word name.1
  Some ((name.0, version.0), version.1)

unfoldable pub program_of : List (List ℕ) → Option Notice
program_of words = do
  names ← names_at words
  alone (Program names.0.0 names.0.1) names.1

unfoldable pub clock_of : List (List ℕ) → Option Notice
clock_of words = do
  number ← number_at (2 ^ 64 - 1) words
  asked ← reading_at number.1
  alone (Clock number.0 asked.0) asked.1

unfoldable pub reply_of : List (List ℕ) → Option Notice
reply_of words = do
  number ← number_at (2 ^ 64 - 1) words
  asked ← reading_at number.1
  answered ← reading_at asked.1
  alone (ClockReply number.0 asked.0 answered.0) answered.1

-- ---- settings

-- a pool of these two words
unfoldable pub pool_of : List ℕ → List ℕ → Option UnitPool
pool_of prefix unit = do
  p ← prefix_word prefix
  n ← number_within 128 unit
  if nat_le p.length n then Some (record { prefix = p; unit_length = n }) else None

-- the first pool
unfoldable pub pool_at : List (List ℕ) → Option (UnitPool × List (List ℕ))
pool_at (prefix ∷ unit ∷ words) = option_map (λ p. (p, words)) (pool_of prefix unit)
pool_at _ = None

-- all of them
unfoldable pub pools_of : List (List ℕ) → Option (List UnitPool)
pools_of [] = Some []
pools_of (prefix ∷ []) = None
pools_of (prefix ∷ unit ∷ words) = do
  pool ← pool_of prefix unit
  option_map (λ pools. pool ∷ pools) (pools_of words)

abbrev pub are_few : List UnitPool → Bool
are_few pools = nat_le 1 (length pools) && nat_le (length pools) 16

-- skew, mclt, life, transit
unfoldable pub spans_at : List (List ℕ) → Option (Spans × List (List ℕ))
spans_at words = do
  skew ← number_at 86400000 words
  mclt ← number_at (2 ^ 32 - 1) skew.1
  life ← number_at (2 ^ 32 - 1) mclt.1
  transit ← number_at 3600000 life.1
  Some (record { skew = skew.0; mclt = mclt.0; life = life.0; transit = transit.0 }, transit.1)

abbrev pub settings_made : Spans → List UnitPool → PairSettings
settings_made s pools =
    record { skew = s.skew; mclt = s.mclt; life = s.life; transit = s.transit; pools = pools }

unfoldable pub settings_of : List (List ℕ) → Option Notice
settings_of words = do
  spans ← spans_at words
  pools ← pools_of spans.1
  if are_few pools then Some (Settings (settings_made spans.0 pools)) else None

-- ---- a notice, by its name

-- a known name, behind which the words spell a notice or this is the fault
abbrev pub known : NoticeError → Option Notice → Result (Option Notice) NoticeError
known fault None = Err fault
known fault (Some n) = Ok (Some n)

unfoldable pub notice_at : List (List ℕ) → Result (Option Notice) NoticeError
notice_at [] = Ok None
notice_at (name ∷ words) =
    if bytes_eq name (codes "program") then known errors.Program (program_of words)
    else if bytes_eq name (codes "settings") then known errors.Settings (settings_of words)
    else if bytes_eq name (codes "clock") then known errors.Clock (clock_of words)
    else if bytes_eq name (codes "clock-reply") then known errors.ClockReply (reply_of words)
    else Ok None

unfoldable pub notice_of : List ℕ → Result (Option Notice) NoticeError
notice_of text = notice_at (split SPACE text)
