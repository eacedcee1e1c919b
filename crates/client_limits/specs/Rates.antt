-- How often clients may be heard.
use Rattle.std.specs.Prelude.{◌≡◌, ◌↔◌, ℕ, ◌+◌, ◌<◌, ◌⊎◌, Bool, ◌==◌, ◌&&◌, not, List, Option, Some, None, IsTrue}
use Rattle.std.specs.Prelude.{if◌then◌else◌}
use Rattle.std.specs.declared.alloc.Global.{Global}
use Rattle.std.specs.declared.vec.Vec.{Vec}
use Rattle.std.specs.Str.{bytes_eq}
use Rattle.std.specs.BTreeMap.{BTreeMap, get_by}
use Rattle.client_limits.specs.Holders.{at_octets}
use Rattle.client_limits.specs.declared.rates.Rates.{Rates}

abbrev pub or_zero : Option ℕ → ℕ
or_zero None = 0
or_zero (Some count) = count

abbrev pub count_in : BTreeMap (Vec ℕ Global) ℕ → List ℕ → ℕ
count_in m name = or_zero (get_by (at_octets name) m)

-- how many messages of this name were heard in a second: none in a second that isn't the one that is counted
abbrev pub heard_in : Rates → ℕ → List ℕ → ℕ
heard_in r second name = if r.second == second then count_in r.counts name else 0

-- another message of the name is heard if the rate is 0 or more than were heard; it is counted, unless the rate is 0
abbrev pub IsHeard : Rates → Rates → ℕ → ℕ → List ℕ → Bool → Type 0
IsHeard old new rate second name heard =
    (IsTrue heard ↔ ((rate ≡ 0) ⊎ (heard_in old second name < rate)))
    × ((n : List ℕ) → heard_in new second n ≡ (if (heard && not (rate == 0)) && bytes_eq name n
    then heard_in old second n + 1 else heard_in old second n))

abbrev pub IsCountedAsBefore : Rates → Rates → ℕ → Type 0
IsCountedAsBefore old new second = (n : List ℕ) → heard_in new second n ≡ heard_in old second n
