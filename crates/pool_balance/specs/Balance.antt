-- How many free units the secondary should have, and which of the primary's go to it (RFC 8156, section 4.2.2:
-- proportional allocation).
use Rattle.std.specs.Prelude.{◌≡◌, ℕ, ◌+◌, ◌-◌, ◌/◌, ◌<◌, ◌≤◌, Bool, true, false, List, length, take, map, filter}
use Rattle.std.specs.Prelude.{count_by, slice_index_or}
use Rattle.std.specs.List.Sorted.{IsPermutation}
use Rattle.prefix_range.specs.Prefix.{Prefix}
use Rattle.binding_rules.specs.declared.update.Status.{Status}
use Rattle.binding_rules.specs.declared.update.Status.TheVariants.{Free, Backup}

-- half of what is free
abbrev pub half_of : ℕ → ℕ → ℕ
half_of free backup = (free + backup) / 2

abbrev pub is_free : Prefix × Status → Bool
is_free (p, Free) = true
is_free (p, _) = false

abbrev pub is_backup : Prefix × Status → Bool
is_backup (p, Backup) = true
is_backup (p, _) = false

-- the primary's to give
abbrev pub free_of : List (Prefix × Status) → List Prefix
free_of units = map (λ u. u.0) (filter is_free units)

-- how many units the secondary lacks to have half
abbrev pub lacking : List (Prefix × Status) → ℕ
lacking units = half_of (count_by is_free units) (count_by is_backup units) - count_by is_backup units

-- no prefix begins above the one before it
abbrev pub IsDescending : List Prefix → Type 0
IsDescending ps =
    (i j : ℕ) (d : Prefix) → i ≤ j → j < length ps → (slice_index_or ps j d).address ≤ (slice_index_or ps i d).address

-- the highest free units, as many as the secondary lacks, highest first
pub record IsChoice (units : List (Prefix × Status)) (chosen : List Prefix) : Type 0 where
  pub ranked : List Prefix
  pub free : IsPermutation (free_of units) ranked
  pub descending : IsDescending ranked
  pub highest : chosen ≡ take (lacking units) ranked
