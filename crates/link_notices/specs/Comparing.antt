-- In what the settings of two partners differ.
use Rattle.std.specs.Prelude.{⊤, ℕ, ◌==◌, ◌&&◌, Bool, true, false, if◌then◌else◌, List, [], ◌∷◌, ◌++◌, length}
use Rattle.std.specs.Prelude.{codes, Option, Some, None}
use Rattle.std.specs.List.{list_any, list_all}
use Rattle.std.specs.Fmt.{decimal}
use Rattle.link_notices.specs.declared.notice.UnitPool.{UnitPool}
use Rattle.link_notices.specs.declared.notice.PairSettings.{PairSettings}
use Rattle.link_notices.specs.declared.comparing.SettingsDifference.{SettingsDifference}
use Rattle.link_notices.specs.declared.comparing.SettingsDifference.TheVariants.{Mclt, Pools, PoolOrder, Skew}
use Rattle.link_notices.specs.declared.comparing.SettingsDifference.TheVariants.{Transit, Life}

abbrev pub is_same_pool : UnitPool → UnitPool → Bool
is_same_pool p q =
    p.prefix.address == q.prefix.address && (p.prefix.length == q.prefix.length && p.unit_length == q.unit_length)

-- one of two lists begins with the other: each of the pools that both have a place for is the same in both
abbrev pub begin_alike : List UnitPool → List UnitPool → Bool
begin_alike [] other = true
begin_alike (p ∷ own) [] = true
begin_alike (p ∷ own) (q ∷ other) = is_same_pool p q && begin_alike own other

abbrev pub has_pool : List UnitPool → UnitPool → Bool
has_pool pools p = list_any (is_same_pool p) pools

-- each of some pools is in the list
abbrev pub are_among : List UnitPool → List UnitPool → Bool
are_among some pools = list_all (has_pool pools) some

-- how two lists differ of which neither begins with the other: in their order alone where they are of one length and
-- each has what the other has
abbrev pub pool_difference : List UnitPool → List UnitPool → SettingsDifference
pool_difference own other =
    if length own == length other && (are_among own other && are_among other own) then PoolOrder else Pools

-- such a difference is told where the settings aren't the same
abbrev pub told : Bool → SettingsDifference → List SettingsDifference
told true difference = []
told false difference = difference ∷ []

abbrev pub differences : PairSettings → PairSettings → List SettingsDifference
differences own other =
    told (own.mclt == other.mclt) (Mclt own.mclt other.mclt)
    ++ (told (begin_alike own.pools other.pools) (pool_difference own.pools other.pools)
    ++ (told (own.skew == other.skew) (Skew own.skew other.skew)
    ++ (told (own.transit == other.transit) (Transit own.transit other.transit)
    ++ told (own.life == other.life) (Life own.life other.life))))

-- two servers that differ so don't join
abbrev pub KeepsApart : SettingsDifference → Type 0
KeepsApart (Mclt own other) = ⊤
KeepsApart Pools = ⊤
KeepsApart PoolOrder = ⊤
KeepsApart _ = ⊥

-- ---- as a text

abbrev pub difference_name : SettingsDifference → List ℕ
difference_name (Mclt own other) = codes "mclt"
difference_name Pools = codes "pools"
difference_name PoolOrder = codes "pool_order"
difference_name (Skew own other) = codes "skew_ms"
difference_name (Transit own other) = codes "transit_ms"
difference_name (Life own other) = codes "life"

-- here and there: seconds or milliseconds, as the name says
abbrev pub difference_values : SettingsDifference → Option (ℕ × ℕ)
difference_values (Mclt own other) = Some (own, other)
difference_values Pools = None
difference_values PoolOrder = None
difference_values (Skew own other) = Some (own, other)
difference_values (Transit own other) = Some (own, other)
difference_values (Life own other) = Some (own, other)

abbrev pub values_text : Option (ℕ × ℕ) → List ℕ
values_text None = []
values_text (Some x) = codes ": " ++ (decimal x.0 ++ (codes " here, " ++ (decimal x.1 ++ codes " there")))

abbrev pub difference_text : SettingsDifference → List ℕ
difference_text d = difference_name d ++ values_text (difference_values d)
