-- What is told at most once a minute, or an hour.
use Rattle.std.specs.Prelude.{ℕ, ◌+◌, ◌-◌, ◌^◌, ◌<◌, ◌≤◌, ◌⊎◌, min}
use Rattle.server_log.specs.declared.rate_limit.RateLimit.{RateLimit}

-- it stays at the greatest number that there is
abbrev pub one_more : ℕ → ℕ
one_more count = min (count + 1) (2 ^ 64 - 1)

-- a minute has passed since, or the clock was set back
abbrev pub IsOver : (told now : ℕ) → Type 0
IsOver told now = (now < told) ⊎ (told + 60000 ≤ now)

-- an hour has passed since, or the clock was set back
abbrev pub IsHourOver : (told now : ℕ) → Type 0
IsHourOver told now = (now < told) ⊎ (told + 3600000 ≤ now)

-- it happened, and the minute is over
abbrev pub IsDue : RateLimit → (now : ℕ) → Type 0
IsDue p now = (0 < p.untold) × IsOver p.told now
