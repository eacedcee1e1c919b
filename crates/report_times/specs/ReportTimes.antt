-- The moments that reports spell.
use Rattle.std.specs.Prelude.{◌≡◌, ℕ, ◌≤◌, ◌⊎◌, ⊤, List, Option, Some, None}
use Rattle.jiff_tz.specs.declared.tzif.Tzif.{Tzif}
use Rattle.zone_times.specs.Shown.{IsShownOnce, IsShownTwice, IsNeverShown}
use Rattle.report_times.specs.UnixTimes.{IsUnixTime, IsEither}
use Rattle.report_times.specs.DateTimes.{IsDateTime, IsLocalTime}
use Rattle.report_times.specs.MailDates.{IsMailDate, IsNamedZone}
use Rattle.report_times.specs.declared.error.ReportTimeError.{ReportTimeError}
use Rattle.report_times.specs.declared.error.ReportTimeError.TheVariants.{SecondsOrMilliseconds, ZoneName, NoOffset}
use Rattle.report_times.specs.declared.error.ReportTimeError.TheVariants.{Twice, Never, NoTime, Memory}

-- a number, or a mail's date
abbrev pub IsCountedOrDated : List ℕ → ℕ → Type 0
IsCountedOrDated text m = IsUnixTime text m ⊎ IsMailDate text m

-- the text is one of this moment, in one of the ways in which reports spell them
abbrev pub IsReportTime : List ℕ → ℕ → Type 0
IsReportTime text m = IsCountedOrDated text m ⊎ IsDateTime text m

-- it is one of no moment that a reading may have
abbrev pub IsNoReportTime : List ℕ → Type 0
IsNoReportTime text = (m : ℕ) → m ≤ 281474976710656 → IsReportTime text m → ⊥

-- why it isn't
abbrev pub IsWhyNot : List ℕ → ReportTimeError → Type 0
IsWhyNot text (SecondsOrMilliseconds n) = IsEither text n
IsWhyNot text NoOffset = (m : ℕ) × IsLocalTime text m
IsWhyNot text ZoneName = (m : ℕ) × IsNamedZone text m
IsWhyNot text (Twice a b) = ⊥
IsWhyNot text Never = ⊥
IsWhyNot text NoTime = ⊤
IsWhyNot text Memory = ⊤

-- ---- on the clocks of a zone

-- the text has no offset, and clocks of the zone show its time once, at this moment
pub record IsLocalMoment (table : Tzif) (text : List ℕ) (m : ℕ) : Type 0 where
  pub shown : ℕ
  pub within : shown ≤ 281474976710656
  pub spelled : IsLocalTime text shown
  pub once : IsShownOnce table shown m

-- the moment that a text spells where clocks of the zone are meant if it has no offset
abbrev pub IsReportTimeIn : Tzif → List ℕ → ℕ → Type 0
IsReportTimeIn table text m = IsReportTime text m ⊎ IsLocalMoment table text m

-- they show its time twice
pub record IsTwice (table : Tzif) (text : List ℕ) (a b : ℕ) : Type 0 where
  pub shown : ℕ
  pub spelled : IsLocalTime text shown
  pub twice : IsShownTwice table shown a b

-- or never
pub record IsNever (table : Tzif) (text : List ℕ) : Type 0 where
  pub shown : ℕ
  pub spelled : IsLocalTime text shown
  pub never : IsNeverShown table shown

-- why it spells none
abbrev pub IsWhyNotIn : Tzif → List ℕ → ReportTimeError → Type 0
IsWhyNotIn table text (Twice a b) = IsTwice table text a b
IsWhyNotIn table text Never = IsNever table text
IsWhyNotIn table text error = IsWhyNot text error

-- where a zone is named, and where none is
abbrev pub IsReportTimeBy : Option Tzif → List ℕ → ℕ → Type 0
IsReportTimeBy (Some table) text m = IsReportTimeIn table text m
IsReportTimeBy None text m = IsReportTime text m

abbrev pub IsWhyNotBy : Option Tzif → List ℕ → ReportTimeError → Type 0
IsWhyNotBy (Some table) text error = IsWhyNotIn table text error
IsWhyNotBy None text error = IsWhyNot text error
