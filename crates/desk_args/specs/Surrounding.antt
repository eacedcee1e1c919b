-- What stands around the words of a command line.
use Rattle.std.specs.Prelude.{Option, option_map}
use Rattle.jiff_tz.specs.declared.tzif.Tzif.{Tzif}
use Rattle.desk_args.specs.declared.bounds.HeadBounds.{HeadBounds}
use Rattle.desk_args.specs.declared.surroundings.Surroundings.{Surroundings}

-- the zone that the words name, and what the heads of the journals say
pub record Around : Type 0 where
  pub zone : Option Tzif
  pub heads : Option HeadBounds

abbrev pub around : Surroundings → Around
around s = record { zone = option_map (λ z. z.now.table) s.zone; heads = s.heads }
