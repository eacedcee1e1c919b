-- For bodies only: Groups of 16 bits that make an address so far.
use Rattle.std.specs.Prelude.{ℕ, ◌^◌, ◌<◌, ◌≤◌}

pub record IsRow (count address : ℕ) : Type 0 where
  pub few : count ≤ 8
  pub fits : address < 65536 ^ count
