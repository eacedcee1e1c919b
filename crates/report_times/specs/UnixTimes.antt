-- Numbers that count from 1970-01-01T00:00:00Z (POSIX.1, Seconds Since the Epoch).
use Rattle.std.specs.Prelude.{◌≡◌, ◌≢◌, ℕ, ◌+◌, ◌*◌, ◌≤◌, ◌<◌, ◌⊎◌, List, [], ◌∷◌, ◌++◌, Some, codes}
use Rattle.text_fields.specs.Number.{number_of}
use Rattle.time_text.specs.Time.{fraction}
use Rattle.report_times.specs.Parts.{front_run, behind_run}
use Rattle.report_times.specs.declared.parts.OctetKind.TheVariants.{Digit}

-- From here on a number without a unit is milliseconds: as seconds it would lie after the year 5138.
abbrev pub sure_milliseconds : ℕ
sure_milliseconds = 100000000000

-- a number without a unit, which can only be milliseconds
abbrev pub IsBare : List ℕ → ℕ → Type 0
IsBare text m = (number_of text ≡ Some m) × (sure_milliseconds ≤ m)

-- a number of milliseconds, with its unit
pub record IsMilliseconds (text : List ℕ) (m : ℕ) : Type 0 where
  pub number : List ℕ
  pub spelled : text ≡ number ++ codes "ms"
  pub value : number_of number ≡ Some m

-- a number of seconds, with its unit
pub record IsSeconds (text : List ℕ) (m : ℕ) : Type 0 where
  pub number : List ℕ
  pub seconds : ℕ
  pub spelled : text ≡ number ++ codes "s"
  pub value : number_of number ≡ Some seconds
  pub moment : m ≡ 1000 * seconds

-- a number of seconds with decimals, of which the first three count
pub record IsDecimal (text : List ℕ) (m : ℕ) : Type 0 where
  pub seconds : ℕ
  pub decimals : List ℕ
  pub value : number_of (front_run Digit text) ≡ Some seconds
  pub point : behind_run Digit text ≡ 46 ∷ decimals
  pub some : decimals ≢ []
  pub digits : behind_run Digit decimals ≡ []
  pub moment : m ≡ 1000 * seconds + fraction 100 decimals

-- the text is a number of seconds or milliseconds, and can't be another
abbrev pub IsUnixTime : List ℕ → ℕ → Type 0
IsUnixTime text m = IsBare text m ⊎ (IsMilliseconds text m ⊎ (IsSeconds text m ⊎ IsDecimal text m))

-- the text is a number that may be seconds or milliseconds
abbrev pub IsEither : List ℕ → ℕ → Type 0
IsEither text n = (number_of text ≡ Some n) × (n < sure_milliseconds)
