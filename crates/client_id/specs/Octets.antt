-- For bodies only: A client identifier as the list of its octets, and how it is kept in an array.
use Rattle.std.specs.Prelude.{◌≡◌, ℕ, ◌-◌, ◌≤◌, List, ◌++◌, length, take, drop, replicate}
use Rattle.text_fields.specs.Octets.{AreOctets}

-- the octets stand first, and zeros fill the array
pub record IsPadded (bytes : List ℕ) (len : ℕ) : Type 0 where
  pub least : 3 ≤ len
  pub most : len ≤ 130
  pub whole : length bytes ≡ 130
  pub fits : AreOctets (take len bytes)
  pub zeros : drop len bytes ≡ replicate (130 - len) 0

-- the octets and as many zeros as fill the array
abbrev pub padded : List ℕ → List ℕ
padded octets = octets ++ replicate (130 - length octets) 0
