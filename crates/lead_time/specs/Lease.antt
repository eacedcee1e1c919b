-- How long a lease may last (RFC 8156, section 4.4: the maximum client lead time). Ends and readings are milliseconds,
-- lifetimes seconds.
use Rattle.std.specs.Prelude.{ℕ, ◌+◌, ◌-◌, ◌*◌, ◌/◌, max, min}

-- the desired lifetime, or what is left from now until the lead time after the acknowledged end has passed, where that
-- is less
abbrev pub allowed_lifetime : ℕ → ℕ → ℕ → ℕ → ℕ
allowed_lifetime desired mclt acked now = min desired ((max acked now + 1000 * mclt - now) / 1000)
