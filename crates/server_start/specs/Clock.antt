-- Whether a clock may go on with a journal.
use Rattle.std.specs.Prelude.{ℕ, ◌+◌, ◌*◌, ◌<◌}

-- The clock reads more than twice the skew below a line that was written earlier: no clock that is within the skew of
-- true time does. Readings and the skew are milliseconds.
abbrev pub IsClockBehind : (now last skew : ℕ) → Type 0
IsClockBehind now last skew = now + 2 * skew < last
