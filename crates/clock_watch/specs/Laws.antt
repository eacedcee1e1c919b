-- What holds of a clock that nobody sets, and of one that is set.
use Rattle.std.specs.Prelude.{◌≡◌, ◌⊎◌, ⊤, ℕ, ◌+◌, ◌-◌, ◌*◌, ◌/◌, ◌^◌, ◌<◌, ◌≤◌, true, false, List, [], ◌∷◌}
use Rattle.std.specs.Time.{instant_nanos}
use Rattle.server_clocks.specs.declared.clocks.Moment.{Moment}
use Rattle.clock_watch.specs.declared.watch.ClockWatch.{ClockWatch}
use Rattle.clock_watch.specs.Watching.{judged, begun_at, seen}

-- a turn: what both clocks read, and what the time of day shows in nanoseconds, of which the reading is the whole
-- milliseconds
pub record Turn : Type 0 where
  pub moment : Moment
  pub wall : ℕ

-- the monotonic clock, in nanoseconds
abbrev pub steady : Turn → ℕ
steady t = instant_nanos t.moment.instant

pub record IsTurn (t : Turn) : Type 0 where
  pub shows : t.moment.reading ≡ t.wall / 1000000
  pub early : steady t < 2 ^ 48 * 1000000

-- From one turn to a later one the time of day less the monotonic clock has grown by this many nanoseconds at least,
abbrev pub IsAhead : (by : ℕ) → Turn → Turn → Type 0
IsAhead by s t = s.wall + steady t + by ≤ t.wall + steady s

-- or has shrunk by so many
abbrev pub IsBehind : (by : ℕ) → Turn → Turn → Type 0
IsBehind by s t = t.wall + steady s + by ≤ s.wall + steady t

-- or has changed by so many at most
pub record IsWithin (bound : ℕ) (s t : Turn) : Type 0 where
  pub forward : steady s ≤ steady t
  pub ahead : t.wall + steady s ≤ s.wall + steady t + bound
  pub behind : s.wall + steady t ≤ t.wall + steady s + bound

-- A clock that nobody sets: from turn to turn the difference changes by less than the skew, less a millisecond for the
-- digits that readings lack, and since the first turn by less than twice the skew. Slewing changes it by nothing.
abbrev pub IsLeft : (skew : ℕ) (first last : Turn) → List Turn → Type 0
IsLeft skew first last [] = ⊤
IsLeft skew first last (t ∷ turns) =
    IsTurn t × IsWithin ((judged skew - 1) * 1000000) last t × IsWithin ((2 * judged skew - 1) * 1000000) first t
    × IsLeft skew first t turns

abbrev pub run : (skew : ℕ) → ClockWatch → List Turn → ClockWatch
run skew w [] = w
run skew w (t ∷ turns) = run skew (seen w t.moment skew) turns

-- is never held to be set
abbrev pub LeftIsNeverSet : Type 0
LeftIsNeverSet = (skew : ℕ) (first : Turn) (turns : List Turn) → IsTurn first → IsLeft skew first first turns
    → (run skew (begun_at first.moment) turns).is_set ≡ false

-- A clock that was set, since the turn at which it was right last, by two milliseconds more than the skew is seen to be
-- set.
abbrev pub SettingIsSeen : Type 0
SettingIsSeen = (skew : ℕ) (w : ClockWatch) (last now : Turn) → w.right ≡ last.moment → IsTurn last → IsTurn now
    → steady last ≤ steady now
    → IsAhead ((judged skew + 2) * 1000000) last now ⊎ IsBehind ((judged skew + 2) * 1000000) last now
    → (seen w now.moment skew).is_set ≡ true
