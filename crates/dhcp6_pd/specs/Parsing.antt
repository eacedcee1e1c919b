-- What functions find: for bodies only.
use Rattle.std.specs.Prelude.{◌≡◌, ℕ, List, Option, Some, None, Result, Ok, Err}
use Rattle.std.specs.Borrow.{Bor}
use Rattle.dhcp6_pd.specs.declared.error.PdFault.{PdFault}
use Rattle.dhcp6_pd.specs.declared.options.RawOption.{RawOption}
use Rattle.dhcp6_pd.specs.Options.{DhcpOption}
use Rattle.dhcp6_pd.specs.Rows.{Row, Done, Broken, Next}

-- the option that an option of the code is
abbrev pub plain : RawOption → DhcpOption
plain o = record { code = o.code; octets = o.octets.now }

-- the next option was taken from a row, which leaves another
abbrev pub Steps : Result (Option RawOption) PdFault → Row → Row → Type 0
Steps (Ok None) left row = row ≡ Done
Steps (Ok (Some o)) left row = row ≡ Next (plain o) left
Steps (Err fault) left row = row ≡ Broken fault

-- what was found in a row, and the row behind it
abbrev pub found_in : Row → Option (Bor (List ℕ)) → Option (List ℕ × Row)
found_in left None = None
found_in left (Some octets) = Some (octets.now, left)
