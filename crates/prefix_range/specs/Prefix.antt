-- Addresses and prefixes (RFC 4291, sections 2.3 and 2.5): plain numbers below 2^128, and sets of them.
use Rattle.std.specs.Prelude.{◌≡◌, ℕ, ◌-◌, ◌/◌, ◌%◌, ◌^◌, ◌<◌, ◌≤◌}

-- an address and a length in bits
pub record Prefix : Type 0 where
  pub address : ℕ
  pub length : ℕ

-- how many addresses share a prefix of this length
abbrev pub size_of : ℕ → ℕ
size_of length = 2 ^ (128 - length)

-- a prefix: at most 128 bits, and the bits of the address past the length are zero
pub record IsPrefix (p : Prefix) : Type 0 where
  pub short : p.length ≤ 128
  pub address : p.address < 2 ^ 128
  pub host_bits : p.address % size_of p.length ≡ 0

-- the address shares the prefix's first bits (RFC 4291, section 2.3)
abbrev pub HasAddress : Prefix → ℕ → Type 0
HasAddress p a = (a < 2 ^ 128) × (a / size_of p.length ≡ p.address / size_of p.length)

-- each address of q is one of p
abbrev pub Contains : Prefix → Prefix → Type 0
Contains p q = (a : ℕ) → HasAddress q a → HasAddress p a

-- some address is in both
abbrev pub Overlaps : Prefix → Prefix → Type 0
Overlaps p q = (a : ℕ) × HasAddress p a × HasAddress q a

-- the least address of a prefix
pub record IsFirst (p : Prefix) (first : ℕ) : Type 0 where
  pub has : HasAddress p first
  pub least : (a : ℕ) → HasAddress p a → first ≤ a

-- the greatest address of a prefix
pub record IsLast (p : Prefix) (last : ℕ) : Type 0 where
  pub has : HasAddress p last
  pub greatest : (a : ℕ) → HasAddress p a → a ≤ last
