-- Which tellings are waited for, and when the partner is asked for what it didn't say.
use Rattle.std.specs.Prelude.{ℕ, ◌*◌, ◌-◌, Bool, true, false, not, nat_le, ◌&&◌, Option, Some, None, List, filter}
use Rattle.std.specs.Time.{instant_nanos}
use Rattle.std.specs.declared.time.Instant.{Instant}

-- so many seconds have passed by the monotonic clock
abbrev pub has_passed : (seconds : ℕ) → (since now : Instant) → Bool
has_passed seconds since now = nat_le (1000000000 * seconds) (instant_nanos now - instant_nanos since)

-- what was sent a second ago isn't waited for any more
abbrev pub is_late : (now : Instant) → Option Instant → Bool
is_late now (Some sent) = has_passed 1 sent now
is_late now None = false

abbrev pub waited_for : Option Instant → List (Option Instant) → List (Option Instant)
waited_for (Some now) sent = filter (λ s. not (is_late now s)) sent
waited_for None sent = sent

-- The partner didn't say that it told all (UPDDONE) for 10 seconds behind the first turn in which the two had joined, and
-- wasn't asked for it yet. Where no clock tells it, it isn't asked.
abbrev pub is_request_due : (told_all has_asked : Bool) → (joined now : Option Instant) → Bool
is_request_due told_all has_asked (Some joined) (Some now) = not told_all && (not has_asked && has_passed 10 joined now)
is_request_due told_all has_asked _ _ = false
