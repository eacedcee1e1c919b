-- The moments at which a clock of a zone shows a time, which is written as if the clock stood in UTC.
use Rattle.std.specs.Prelude.{◌≡◌, ◌≤◌, ◌*◌, ℕ, ℤ, pos, ◌+ℤ◌, ◌*ℤ◌}
use Rattle.jiff_core.specs.Timestamp.{IsTimestampNanos}
use Rattle.jiff_core.specs.DateTime.{civil_nanos}
use Rattle.jiff_core.specs.declared.offset.Offset.{Offset}
use Rattle.jiff_core.specs.declared.civil.datetime.DateTime.{DateTime}
use Rattle.jiff_tz.specs.declared.tzif.Tzif.{Tzif}
use Rattle.jiff_tz.specs.Tzif.{offset_at, ambiguous_at}
use Rattle.jiff_tz.specs.declared.ambiguous.AmbiguousOffset.{AmbiguousOffset}
use Rattle.jiff_tz.specs.declared.ambiguous.AmbiguousOffset.TheVariants.{Unambiguous, Gap, Fold}
use Rattle.zone_times.specs.declared.shown.ShownMoments.{ShownMoments}
use Rattle.zone_times.specs.declared.shown.ShownMoments.TheVariants.{Once, Twice, Never, Outside}

-- by the zone's file the time has this offset, or lies in a gap or a fold between these two
pub record FileSays (table : Tzif) (shown : ℕ) (offsets : AmbiguousOffset) : Type 0 where
  pub time : DateTime
  pub shown_is : civil_nanos time ≡ pos (shown * 1_000_000)
  pub says : ambiguous_at table time ≡ offsets

-- by so many seconds the zone's clocks are ahead of UTC at a moment
pub record IsAheadAt (table : Tzif) (m : ℕ) (seconds : ℤ) : Type 0 where
  pub within : IsTimestampNanos (pos (m * 1_000_000))
  pub offset : (offset_at table (pos (m * 1_000_000))).seconds ≡ seconds

-- then they show the time at this moment
pub record IsMomentAt (table : Tzif) (shown : ℕ) (seconds : ℤ) (m : ℕ) : Type 0 where
  pub shown_is : pos shown ≡ pos m +ℤ (pos 1000 *ℤ seconds)
  pub ahead : IsAheadAt table m seconds

-- the zone's clocks show the time once
pub record IsShownOnce (table : Tzif) (shown m : ℕ) : Type 0 where
  pub offset : Offset
  pub says : FileSays table shown (Unambiguous offset)
  pub moment : IsMomentAt table shown offset.seconds m

abbrev pub IsNotShownOnce : Tzif → (shown : ℕ) → Type 0
IsNotShownOnce table shown = (m : ℕ) → m ≤ 281474976710656 → IsShownOnce table shown m → ⊥

-- twice: before they were put back, and after that
pub record IsShownTwice (table : Tzif) (shown a b : ℕ) : Type 0 where
  pub before : Offset
  pub after : Offset
  pub says : FileSays table shown (Fold before after)
  pub earlier : IsMomentAt table shown before.seconds a
  pub later : IsMomentAt table shown after.seconds b

-- never: they were put forward over it
pub record IsNeverShown (table : Tzif) (shown : ℕ) : Type 0 where
  pub before : Offset
  pub after : Offset
  pub says : FileSays table shown (Gap before after)

abbrev pub AreMoments : Tzif → (shown : ℕ) → ShownMoments → Type 0
AreMoments table shown (Once m) = IsShownOnce table shown m
AreMoments table shown (Twice a b) = IsShownTwice table shown a b × IsNotShownOnce table shown
AreMoments table shown Never = IsNeverShown table shown × IsNotShownOnce table shown
AreMoments table shown Outside = IsNotShownOnce table shown
