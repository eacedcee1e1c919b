-- What a running server owes its partner and its journal.
use Rattle.std.specs.Prelude.{◌≡◌, ◌⊎◌, ℕ, ◌+◌, ◌-◌, ◌*◌, ◌^◌, ◌<◌, ◌≤◌, max, Option, Some, None}
use Rattle.server_timers.specs.declared.due_actions.RollBlocked.{RollBlocked}
use Rattle.server_timers.specs.declared.due_actions.RollBlocked.TheVariants.{PartnerDown, UnitMarked}
use Rattle.server_timers.specs.declared.due_actions.RollState.{RollState}
use Rattle.server_timers.specs.declared.due_actions.RollState.TheVariants.{NotDue, Due, Blocked}
use Rattle.server_timers.specs.declared.due_actions.Room.{Room}
use Rattle.server_timers.specs.declared.due_actions.Room.TheVariants.{Enough, FullWithinHour, Full}
use Rattle.server_timers.specs.declared.due_actions.OperatorRequest.{OperatorRequest}
use Rattle.server_timers.specs.declared.due_actions.OperatorRequest.TheVariants.{Roll}
use Rattle.server_timers.specs.declared.growth.Growth.{Growth}

-- when a server does what, each at least 1
pub record TimerSettings : Type 0 where
  pub heartbeat : ℕ  -- seconds without a line but takes of contacts, after which it says so to its partner
  pub volume_lines : ℕ  -- lines behind the head lines
  pub volume_hours : ℕ

pub record AreTimerSettings (l : TimerSettings) : Type 0 where
  pub heartbeat : 1 ≤ l.heartbeat
  pub volume_lines : 1 ≤ l.volume_lines
  pub volume_hours : 1 ≤ l.volume_hours

-- how many lines the server wrote behind the head lines
abbrev pub lines_written : Growth → ℕ
lines_written g = g.lines - g.head_lines

-- ---- contacts

-- nothing but takes of contacts was written for the heartbeat's seconds
abbrev pub IsContactDue : TimerSettings → Growth → (now : ℕ) → Type 0
IsContactDue l g now = g.spoken + 1000 * l.heartbeat ≤ now

-- ---- room

-- only a close line has room
abbrev pub IsFull : Growth → Type 0
IsFull g = 2 ^ 20 - 1 ≤ g.lines

-- milliseconds since the volume began, a minute at least, so that its first lines alone tell of no rate
abbrev pub time_seen : Growth → (now : ℕ) → ℕ
time_seen g now = max 60000 (now - g.opened)

-- at the rate seen what is left is used up within an hour: left / (written / time) is at most that
abbrev pub IsFullWithinHour : Growth → (now : ℕ) → Type 0
IsFullWithinHour g now = (2 ^ 20 - 1 - g.lines) * time_seen g now ≤ 3600000 * lines_written g

abbrev pub IsRoom : Growth → (now : ℕ) → Room → Type 0
IsRoom g now Full = IsFull g
IsRoom g now FullWithinHour = (IsFull g → ⊥) × IsFullWithinHour g now
IsRoom g now Enough = (IsFull g → ⊥) × (IsFullWithinHour g now → ⊥)

-- ---- rolls

-- the volume was begun so many hours ago
abbrev pub IsOldEnough : TimerSettings → Growth → (now : ℕ) → Type 0
IsOldEnough l g now = g.opened + 3600000 * l.volume_hours ≤ now

-- a volume ends before the seventh renewal of a lease, each of which comes at half of its lifetime (RFC 8415, section
-- 21.21: T1)
abbrev pub IsShortFor : TimerSettings → (life : ℕ) → Type 0
IsShortFor l life = 2 * 3600 * l.volume_hours < 7 * life

-- the server was told to, the volume has its lines or its hours, or it is full
abbrev pub IsRollDue : TimerSettings → Growth → (now : ℕ) → OperatorRequest → Type 0
IsRollDue l g now told =
    (told ≡ Roll) ⊎ ((l.volume_lines ≤ lines_written g) ⊎ (IsOldEnough l g now ⊎ IsFull g))

-- the rules forbid a roll while the partner is taken for down, and while it has yet to acknowledge a seized unit
abbrev pub blocked_by : {R P : Type 0} → (down : Option R) (mark : Option P) → Option RollBlocked
blocked_by (Some d) mark = Some PartnerDown
blocked_by None (Some m) = Some UnitMarked
blocked_by None None = None

-- what is owed where a roll is due or not, and something may forbid it
abbrev pub IsRoll : (due : Type 0) → Option RollBlocked → RollState → Type 0
IsRoll due bar NotDue = due → ⊥
IsRoll due None Due = due
IsRoll due (Some b) (Blocked c) = due × (c ≡ b)
IsRoll due bar roll = ⊥
