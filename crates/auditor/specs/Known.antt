-- What other clients had of a prefix, found once for certificates that ask of it.
use Rattle.std.specs.Prelude.{◌≡◌, ℕ, ◌<◌, ◌≤◌, Bool, false, not, ◌&&◌, List, length, filter, Option, Some, None}
use Rattle.std.specs.Str.{bytes_eq}
use Rattle.prefix_range.specs.Prefix.{Prefix}
use Rattle.causal_order.specs.declared.reference.Ref.{Ref}
use Rattle.causal_order.specs.Journals.{Journals}
use Rattle.attribution.specs.declared.delegation.Delegation.{Delegation}
use Rattle.attribution.specs.Listing.{IsListing}
use Rattle.attribution.specs.Tests.{delegation_of, overlaps}

-- the delegation is another client's, of a prefix that overlaps this one
abbrev pub is_others : (holder : List ℕ) → Prefix → Option Delegation → Bool
is_others holder p None = false
is_others holder p (Some d) = not (bytes_eq d.client holder) && overlaps d.prefix p

-- the line tells of such a one
abbrev pub tells_others : Journals → (holder : List ℕ) → Prefix → Ref → Bool
tells_others js holder p r = is_others holder p (delegation_of js r)

abbrev pub others_in : Journals → (holder : List ℕ) → Prefix → List Ref → List Ref
others_in js holder p refs = filter (tells_others js holder p) refs

-- exactly the lines of both journals that do, each once
pub record AreOthers (js : Journals) (holder : List ℕ) (p : Prefix) (refs : List Ref) : Type 0 where
  pub listed : List Ref
  pub exact : IsListing js p listed
  pub others : refs ≡ others_in js holder p listed

-- these are the lines, or there are more than so many
abbrev pub IsFewOthers : Journals → (holder : List ℕ) → Prefix → (most : ℕ) → Option (List Ref) → Type 0
IsFewOthers js holder p most (Some refs) = AreOthers js holder p refs × (length refs ≤ most)
IsFewOthers js holder p most None = (refs : List Ref) × AreOthers js holder p refs × (most < length refs)
