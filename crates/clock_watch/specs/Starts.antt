-- Whether a server's clock lets it begin, before it writes a line.
use Rattle.std.specs.Prelude.{◌≡◌, ◌⊎◌, ◌≤◌, ◌-◌}
use Rattle.std.specs.Time.{instant_nanos}
use Rattle.std.specs.declared.time.Instant.{Instant}
use Rattle.link_notices.specs.declared.clocks.ClockVerdict.TheVariants.{Agrees, TooFarOff, Unknown}
use Rattle.clock_watch.specs.declared.record.RecordVerdict.{RecordVerdict}
use Rattle.clock_watch.specs.declared.record.RecordVerdict.TheVariants.{Unknown as NothingKept, Same, Set as WasSet}
use Rattle.clock_watch.specs.declared.start.PartnerLink.{PartnerLink}
use Rattle.clock_watch.specs.declared.start.PartnerLink.TheVariants.{None as Alone, Linked}
use Rattle.clock_watch.specs.declared.start.PartnerSight.{PartnerSight}
use Rattle.clock_watch.specs.declared.start.PartnerSight.TheVariants.{Unseen, Untold, Told}
use Rattle.clock_watch.specs.declared.start.StartClock.{StartClock}
use Rattle.clock_watch.specs.declared.start.StartClock.TheVariants.{Asks, Differs, Set, Begins}

-- a clock that was set waits; else a server with a partner asks
abbrev pub IsFirst : RecordVerdict → PartnerLink → (now : Instant) → StartClock → Type 0
IsFirst (WasSet expected) link now result = result ≡ Set expected
IsFirst Same Linked now result = result ≡ Asks now
IsFirst NothingKept Linked now result = result ≡ Asks now
IsFirst Same Alone now result = result ≡ Begins
IsFirst NothingKept Alone now result = result ≡ Begins

-- it asked its partner for 30 seconds by the monotonic clock
abbrev pub HasAskedLong : (since now : Instant) → Type 0
HasAskedLong since now = 30000000000 ≤ instant_nanos now - instant_nanos since

abbrev pub AsksOn : (since now : Instant) → StartClock → Type 0
AsksOn since now result =
    ((HasAskedLong since now → ⊥) × (result ≡ Asks since)) ⊎ (HasAskedLong since now × (result ≡ Begins))

-- a clock that was set: until the difference is gone
abbrev pub WhileSet : RecordVerdict → StartClock → Type 0
WhileSet (WasSet expected) result = result ≡ Set expected
WhileSet Same result = result ≡ Begins
WhileSet NothingKept result = result ≡ Begins

-- A server begins where its partner agrees. One whose partner's clock is too far off waits until the two agree; one that
-- asks begins where its partner can't say it, and where it asked for long.
abbrev pub IsNext : StartClock → PartnerSight → RecordVerdict → (now : Instant) → StartClock → Type 0
IsNext old (Told Agrees) kept now result = result ≡ Begins
IsNext Begins sight kept now result = result ≡ Begins
IsNext (Set before) sight kept now result = WhileSet kept result
IsNext Differs sight kept now result = result ≡ Differs
IsNext (Asks since) (Told TooFarOff) kept now result = result ≡ Differs
IsNext (Asks since) Untold kept now result = result ≡ Begins
IsNext (Asks since) Unseen kept now result = AsksOn since now result
IsNext (Asks since) (Told Unknown) kept now result = AsksOn since now result
