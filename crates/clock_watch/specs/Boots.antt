-- Names of boots of the system.
use Rattle.std.specs.Prelude.{◌≡◌, ℕ, ◌==◌, ◌&&◌, Bool, true, nat_le, List, length, Option, Some, None}
use Rattle.std.specs.Prelude.{if◌then◌else◌}
use Rattle.std.specs.List.{list_all}

-- a character of ASCII that is seen, and so no space and no line feed
abbrev pub is_visible : ℕ → Bool
is_visible b = nat_le 33 b && nat_le b 126

pub record IsBootId (octets : List ℕ) : Type 0 where
  pub whole : length octets ≡ 36
  pub visible : list_all is_visible octets ≡ true

-- the name that a word is
unfoldable pub boot_of : List ℕ → Option (List ℕ)
boot_of word = if length word == 36 && list_all is_visible word then Some word else None
