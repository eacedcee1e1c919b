-- For bodies only: what keeps a table's counters within their limits.
use Rattle.std.specs.Prelude.{◌+◌, ◌^◌, ◌≤◌}
use Rattle.prefix_range.specs.Prefix.{Prefix}
use Rattle.book_state.specs.declared.book_numbers.StateNumbers.{StateNumbers}
use Rattle.book_state.specs.Places.{Delegable, unit_at}

-- each line counts at most one change of a unit, one message and one restart, and a later volume begins with at most
-- 2^48 of each
pub record Fits (s : StateNumbers) (t : Delegable) : Type 0 where
  pub few : s.count ≤ 2 ^ 20
  pub mine : (p : Prefix) → (unit_at t p).mine ≤ 2 ^ 48 + s.count
  pub serial : s.serial ≤ 2 ^ 48 + s.count
  pub restart : s.restart ≤ 2 ^ 48 + s.count
