-- How long nothing came over a connection.
use Rattle.std.specs.Prelude.{ℕ, ◌-◌, ◌/◌, ◌≤◌, ◌⊎◌, Bool, true, false, IsTrue}
use Rattle.std.specs.Time.{instant_nanos}
use Rattle.std.specs.declared.time.Instant.{Instant}

-- the whole seconds from a moment to a later one
abbrev pub seconds_from : Instant → Instant → ℕ
seconds_from begun now = (instant_nanos now - instant_nanos begun) / 1000000000

-- A connection is given up over which nothing came for so many seconds: five where nothing ever came; else ten minutes,
-- or one where another connection has come.
abbrev pub IsTimedOut : (has_heard : Bool) → (has_other : Bool) → (silence : ℕ) → Type 0
IsTimedOut false has_other silence = 5 ≤ silence
IsTimedOut true has_other silence = (600 ≤ silence) ⊎ (IsTrue has_other × (60 ≤ silence))
