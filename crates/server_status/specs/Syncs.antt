-- How long syncs took.
use Rattle.std.specs.Prelude.{◌≡◌, ℕ, ◌+◌, ◌-◌, ◌/◌, Bool, nat_le, List, [], length, drop, map, slice_get, Option, Some}
use Rattle.std.specs.Prelude.{None}
use Rattle.std.specs.Prelude.{filter}
use Rattle.std.specs.List.Sorted.{IsPermutation, IsNonDecreasing}
use Rattle.server_status.specs.declared.sync_times.SyncTime.{SyncTime}
use Rattle.server_status.specs.declared.sync_times.SyncSummary.{SyncSummary}

-- the last 1,024
abbrev pub last_of : List SyncTime → List SyncTime
last_of times = drop (length times - 1024) times

-- a sync ended a minute before a reading or later
abbrev pub is_recent : (now : ℕ) → SyncTime → Bool
is_recent now time = nat_le now (time.ended + 60000)

abbrev pub recent_times : (now : ℕ) → List SyncTime → List ℕ
recent_times now times = map (λ time. time.microseconds) (filter (is_recent now) times)

-- what is said of times in their order: how many there are, the middle one and the last
pub record IsSummaryOf (sorted : List ℕ) (s : SyncSummary) : Type 0 where
  pub count : s.count ≡ length sorted
  pub median : slice_get sorted (length sorted / 2) ≡ Some s.median
  pub worst : slice_get sorted (length sorted - 1) ≡ Some s.worst

-- the same of times in any order; nothing is said of none
abbrev pub IsSummary : List ℕ → Option SyncSummary → Type 0
IsSummary times None = times ≡ []
IsSummary times (Some s) =
    (sorted : List ℕ) × IsPermutation times sorted × IsNonDecreasing sorted × IsSummaryOf sorted s
