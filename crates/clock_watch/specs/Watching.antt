-- Whether the time of day was set. Readings, spans and skews are milliseconds.
use Rattle.std.specs.Prelude.{ℕ, ◌+◌, ◌-◌, ◌*◌, ◌/◌, ◌^◌, ◌&&◌, Bool, true, false, nat_le, min, max}
use Rattle.std.specs.Time.{instant_nanos}
use Rattle.std.specs.declared.time.Instant.{Instant}
use Rattle.server_clocks.specs.declared.clocks.Moment.{Moment}
use Rattle.clock_watch.specs.declared.watch.ClockWatch.{ClockWatch}

-- the skew by which a clock is judged
abbrev pub judged : ℕ → ℕ
judged skew = max skew 100

-- what passed by the monotonic clock, in whole milliseconds, 2^48 at most
abbrev pub elapsed : Instant → Instant → ℕ
elapsed from now = min ((instant_nanos now - instant_nanos from) / 1000000) (2 ^ 48)

-- what a clock that was right at a moment shows at this instant, if nobody set it since
abbrev pub would_show : Moment → Instant → ℕ
would_show right now = right.reading + elapsed right.instant now

-- two numbers differ by no more than the bound
abbrev pub is_near : (bound one other : ℕ) → Bool
is_near bound one other = nat_le one (other + bound) && nat_le other (one + bound)

-- the clock shows what it may: within the skew of what it would show since it was right last, and within twice the skew
-- of what it would show since the beginning
abbrev pub is_right : ClockWatch → (now : Moment) → (skew : ℕ) → Bool
is_right w now skew =
    is_near (judged skew) (would_show w.right now.instant) now.reading
    && is_near (2 * judged skew) (would_show w.begun now.instant) now.reading

-- the clock is taken for right at this moment
abbrev pub begun_at : Moment → ClockWatch
begun_at now = record { begun = now; right = now; is_set = false }

-- a turn at which the clock shows what it may, or not
abbrev pub turned : Bool → ClockWatch → (now : Moment) → ClockWatch
turned true w now = record w { right = now; is_set = false }
turned false w now = record w { is_set = true }

abbrev pub seen : ClockWatch → (now : Moment) → (skew : ℕ) → ClockWatch
seen w now skew = turned (is_right w now skew) w now
