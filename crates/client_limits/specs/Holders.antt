-- Who has which units, by octets that name a holder.
use Rattle.std.specs.Prelude.{◌≡◌, ℕ, Bool, false, ◌==◌, List, [], ◌∷◌, ◌++◌, Option, Some, None, option_map}
use Rattle.std.specs.Prelude.{if◌then◌else◌}
use Rattle.std.specs.declared.cmp.Ordering.{Ordering}
use Rattle.std.specs.declared.alloc.Global.{Global}
use Rattle.std.specs.declared.vec.Vec.{Vec}
use Rattle.std.specs.Ordering.{nat_cmp}
use Rattle.std.specs.Str.{bytes_eq}
use Rattle.std.specs.BTreeMap.{BTreeMap, get, get_by}
use Rattle.std.specs.Cmp.Lexicographic.{slice_cmp}
use Rattle.prefix_range.specs.Prefix.{Prefix}
use Rattle.client_limits.specs.declared.holders.Holders.{Holders}

-- ---- in two maps

abbrev pub holder_in : BTreeMap ℕ (Vec ℕ Global) → ℕ → Option (List ℕ)
holder_in m address = option_map (λ (holder : Vec ℕ Global). holder.items) (get nat_cmp m address)

abbrev pub listed : Option (Vec Prefix Global) → List Prefix
listed None = []
listed (Some units) = units.items

abbrev pub at_octets : List ℕ → Vec ℕ Global → Ordering
at_octets octets key = slice_cmp nat_cmp octets key.items

abbrev pub units_in : BTreeMap (Vec ℕ Global) (Vec Prefix Global) → List ℕ → List Prefix
units_in m holder = listed (get_by (at_octets holder) m)

-- who has the unit that begins at an address, if that is known
abbrev pub holder_of : Holders → ℕ → Option (List ℕ)
holder_of h address = holder_in h.holders address

-- the units that a holder has, in the order in which they were given
abbrev pub units_of : Holders → List ℕ → List Prefix
units_of h holder = units_in h.units holder

-- ---- what changes

-- the units but for the one that begins there
abbrev pub without : ℕ → List Prefix → List Prefix
without address [] = []
without address (p ∷ ps) = if p.address == address then without address ps else p ∷ without address ps

abbrev pub is_named : Option (List ℕ) → List ℕ → Bool
is_named None octets = false
is_named (Some holder) octets = bytes_eq holder octets

-- these are a holder's units from now on
pub record IsListed (old new : Holders) (holder : List ℕ) (its : List Prefix) : Type 0 where
  pub holders : (address : ℕ) → holder_of new address ≡ holder_of old address
  pub units : (h : List ℕ) → units_of new h ≡ (if bytes_eq holder h then its else units_of old h)

-- nobody is known to have the unit, and it leaves the list of who had it
pub record IsForgotten (old new : Holders) (unit : Prefix) : Type 0 where
  pub holders : (address : ℕ) → holder_of new address
      ≡ (if address == unit.address then None else holder_of old address)
  pub units : (h : List ℕ) → units_of new h
      ≡ (if is_named (holder_of old unit.address) h then without unit.address (units_of old h) else units_of old h)

-- the unit, which nobody is known to have, is the holder's, the last of its list
pub record IsAdded (old new : Holders) (unit : Prefix) (holder : List ℕ) : Type 0 where
  pub holders : (address : ℕ) → holder_of new address
      ≡ (if address == unit.address then Some holder else holder_of old address)
  pub units : (h : List ℕ) → units_of new h
      ≡ (if bytes_eq holder h then units_of old h ++ unit ∷ [] else units_of old h)

-- the unit is forgotten, and then it is the holder's
abbrev pub IsGiven : Holders → Holders → Prefix → List ℕ → Type 0
IsGiven old new unit holder =
    (between : Holders) × IsForgotten old between unit × IsAdded between new unit holder

pub record IsAsItWas (old new : Holders) : Type 0 where
  pub holders : (address : ℕ) → holder_of new address ≡ holder_of old address
  pub units : (h : List ℕ) → units_of new h ≡ units_of old h
