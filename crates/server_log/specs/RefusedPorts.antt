-- Which relay ports a person was told of, where a quota refused something.
use Rattle.std.specs.Prelude.{◌≡◌, ◌⊎◌, ⊤, ℕ, ◌+◌, ◌<◌, ◌≤◌, Bool, true, false, Option, Some, None}
use Rattle.std.specs.declared.alloc.Global.{Global}
use Rattle.std.specs.declared.vec.Vec.{Vec}
use Rattle.std.specs.declared.cmp.Ordering.{Ordering}
use Rattle.std.specs.Ordering.{nat_cmp}
use Rattle.std.specs.Cmp.Lexicographic.{slice_cmp}
use Rattle.std.specs.BTreeSet.{BTreeSet, contains, Updates}
use Rattle.server_log.specs.declared.rate_limit.RateLimit.{RateLimit}
use Rattle.server_log.specs.declared.refused_ports.PortNews.{PortNews}
use Rattle.server_log.specs.declared.refused_ports.PortNews.TheVariants.{Told, Counted, Known}
use Rattle.server_log.specs.declared.refused_ports.RefusedPorts.{RefusedPorts}
use Rattle.server_log.specs.RateLimits.{IsHourOver}

-- the hour is over, or none has begun
abbrev pub IsAnHourOver : Option RateLimit → (now : ℕ) → Type 0
IsAnHourOver None now = ⊤
IsAnHourOver (Some hour) now = IsHourOver hour.told now

-- the hour was over: how many ports were counted is said, and another hour begins; or it wasn't
abbrev pub HasEnded : RefusedPorts → RefusedPorts → (now count : ℕ) → Type 0
HasEnded old new now count =
    (IsAnHourOver old.hour now × (count ≡ old.others) × (new.hour ≡ Some (record { told = now; untold = 0 }))
    × (new.told ≡ 0) × (new.others ≡ 0))
    ⊎ ((IsAnHourOver old.hour now → ⊥) × (count ≡ 0) × (new ≡ old))

-- a port that wasn't seen within the hour: of the first 64 a person is told, and the others are counted
abbrev pub IsFresh : (told others new_told new_others : ℕ) → PortNews → Type 0
IsFresh told others new_told new_others Told = (told < 64) × (new_told ≡ told + 1) × (new_others ≡ others)
IsFresh told others new_told new_others Counted = (64 ≤ told) × (new_told ≡ told) × (new_others ≡ others + 1)
IsFresh told others new_told new_others Known = ⊥

abbrev pub by_octets : Vec ℕ Global → Vec ℕ Global → Ordering
by_octets x y = slice_cmp nat_cmp x.items y.items

-- a port that was seen within the hour is known, and another is one that wasn't
pub record IsNoted (old new : RefusedPorts) (key : Vec ℕ Global) (news : PortNews) : Type 0 where
  pub known : contains by_octets old.ports key ≡ true → (news ≡ Known) × (new.told ≡ old.told) × (new.others ≡ old.others)
  pub fresh : contains by_octets old.ports key ≡ false → IsFresh old.told old.others new.told new.others news
  pub seen : Updates by_octets old.ports new.ports key true

-- of 65,536 that are counted no other is told apart
abbrev pub IsAdded : RefusedPorts → RefusedPorts → (key : Vec ℕ Global) → PortNews → Type 0
IsAdded old new key news =
    ((65536 ≤ old.others) × (news ≡ Known) × (new ≡ old)) ⊎ ((old.others < 65536) × IsNoted old new key news)
