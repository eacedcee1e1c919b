-- Dates as mail and HTTP have them (RFC 5322, section 3.3, with the older forms of section 4.3).
use Rattle.std.specs.Prelude.{◌≡◌, ◌≤◌, ℕ, ℤ, pos, Bool, true, false, not, List, [], ◌∷◌, take, drop, Ok, codes, ◌==◌, ◌||◌, ◌&&◌}
use Rattle.std.specs.Prelude.{int_div, get_or, length}
use Rattle.std.specs.Str.{str_eq_ignore_ascii_case}
use Rattle.jiff_fmt.specs.Rfc2822.{timestamp}
use Rattle.report_times.specs.Parts.{front_run, behind_run}
use Rattle.report_times.specs.declared.parts.OctetKind.TheVariants.{Space, Word, NoColon}
use Rattle.report_times.specs.declared.mail_date.MailDate.{MailDate}
use Rattle.report_times.specs.declared.mail_date.MailDate.TheVariants.{Moment, NamedZone, NotOne}

-- the word behind the first word of a text
abbrev pub next_word : List ℕ → List ℕ
next_word text = front_run Word (behind_run Space (behind_run Word text))

-- the minutes of a date's clock, and its seconds: what follows its first colon
abbrev pub minutes_of : List ℕ → List ℕ
minutes_of text = drop 1 (behind_run NoColon text)

-- the word behind its clock: the offset, or a zone's name
abbrev pub zone_of : List ℕ → List ℕ
zone_of text = next_word (minutes_of text)

-- it is an offset, or a name of UTC (RFC 5322, section 4.3)
abbrev pub is_told : List ℕ → Bool
is_told zone =
    (get_or zone 0 0 == 43) || (get_or zone 0 0 == 45) || str_eq_ignore_ascii_case zone (codes "GMT")
    || str_eq_ignore_ascii_case zone (codes "UT") || str_eq_ignore_ascii_case zone (codes "Z")

-- the clock shows a leap second, which no moment is
abbrev pub is_leap : List ℕ → Bool
is_leap text = (get_or (minutes_of text) 2 0 == 58) && (get_or (minutes_of text) 3 0 == 54)

-- the text spells this moment, as a mail's date
abbrev pub IsDated : List ℕ → ℕ → Type 0
IsDated text m = (t : ℤ) × (timestamp false text ≡ Ok t) × (int_div t (pos 1000000) ≡ pos m)

-- and says by how much its clock is ahead of UTC
pub record IsMailDate (text : List ℕ) (m : ℕ) : Type 0 where
  pub dated : IsDated text m
  pub told : is_told (zone_of text) ≡ true
  pub whole : is_leap text ≡ false

-- it doesn't: the zone has a name alone
pub record IsNamedZone (text : List ℕ) (m : ℕ) : Type 0 where
  pub dated : IsDated text m
  pub named : is_told (zone_of text) ≡ false

-- it spells no moment that a reading may have
abbrev pub IsNoMailDate : List ℕ → Type 0
IsNoMailDate text = (m : ℕ) → m ≤ 281474976710656 → IsMailDate text m → ⊥

-- what is said of a text
abbrev pub IsSaid : List ℕ → MailDate → Type 0
IsSaid text (Moment m) = IsMailDate text m
IsSaid text NamedZone = ((m : ℕ) × IsNamedZone text m) × IsNoMailDate text
IsSaid text NotOne = IsNoMailDate text
