-- A server's settings, and the lines that its first journal begins with.
use Rattle.std.specs.Prelude.{ℕ, ◌≤◌, List, ◌∷◌, ◌++◌, length, map, All}
use Rattle.std.specs.List.{sum_by}
use Rattle.binding_rules.specs.declared.role.Role.{Role}
use Rattle.journal_lines.specs.declared.event.Event.{Event}
use Rattle.journal_lines.specs.declared.event.Event.TheVariants.{Open}
use Rattle.journal_lines.specs.declared.volume.Head.TheVariants.{One}
use Rattle.journal_lines.specs.declared.line.Journal.{Journal}
use Rattle.book_state.specs.declared.pool.Pool.{Pool}
use Rattle.book_state.specs.Book.{units_in}
use Rattle.book_state.specs.Places.{IsPool, AreDisjoint}
use Rattle.book_rules.specs.NextHead.{pool_event, transit_events, lines_from}

pub record ServerSettings : Type 0 where
  pub role : Role
  pub duid : List ℕ  -- the server's own identifier
  pub skew : ℕ  -- milliseconds
  pub mclt : ℕ  -- the maximum client lead time, in seconds
  pub life : ℕ  -- the desired lifetime, in seconds
  pub transit : ℕ  -- milliseconds
  pub pools : List Pool

abbrev pub settings_of : Role → List ℕ → (skew mclt life transit : ℕ) → List Pool → ServerSettings
settings_of role duid skew mclt life transit pools =
    record {
      role = role;
      duid = duid;
      skew = skew;
      mclt = mclt;
      life = life;
      transit = transit;
      pools = pools;
    }

-- the limits: a year, 16 pools and at least one, 65,536 units in all; a unit is no longer than its pool and no shorter
-- than an address
pub record AreWithin (s : ServerSettings) : Type 0 where
  pub mclt_least : 1 ≤ s.mclt
  pub mclt : s.mclt ≤ 31536000
  pub life_least : 1 ≤ s.life
  pub life : s.life ≤ 31536000
  pub some : 1 ≤ length s.pools
  pub few : length s.pools ≤ 16
  pub each : All IsPool s.pools
  pub room : sum_by units_in s.pools ≤ 65536

-- settings by which a server may open: no two pools have an address in common
pub record AreFit (s : ServerSettings) : Type 0 where
  pub skew : s.skew ≤ 86400000
  pub transit : s.transit ≤ 3600000
  pub within : AreWithin s
  pub disjoint : AreDisjoint s.pools

-- a transit of 0 has no line
abbrev pub opening_events : ServerSettings → List Event
opening_events s = Open s.skew s.mclt s.life ∷ (map pool_event s.pools ++ transit_events s.transit)

-- the journal that a server opens at a reading
abbrev pub opening : ServerSettings → ℕ → Journal
opening s now = record { role = s.role; head = One; lines = lines_from 1 now (opening_events s) }
