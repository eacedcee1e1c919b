-- The units of a pool: its prefixes of one length, in the order of their addresses (RFC 8415, section 6.3: a pool of
-- prefixes).
use Rattle.std.specs.Prelude.{◌≡◌, ℕ, ◌+◌, ◌*◌}
use Rattle.prefix_range.specs.Prefix.{Prefix, Contains, size_of}

-- u is the prefix of this length in the pool, before which this many others lie
pub record IsUnit (pool : Prefix) (length index : ℕ) (u : Prefix) : Type 0 where
  pub inside : Contains pool u
  pub bits : u.length ≡ length
  pub place : u.address ≡ pool.address + index * size_of length
