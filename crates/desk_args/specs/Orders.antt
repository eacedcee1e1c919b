-- What the words of a command line order: what is asked, where its texts come from, and what stands beside it.
use Rattle.std.specs.Prelude.{◌≡◌, Option, Some, None, List, option_map, codes}
use Rattle.clap.specs.Words.{Row, Text, first_of}
use Rattle.desk_args.specs.declared.orders.Invocation.{Invocation}
use Rattle.desk_args.specs.Surrounding.{Around}
use Rattle.desk_args.specs.Requests.{IsAsked}
use Rattle.desk_args.specs.Sources.{IsFrom}
use Rattle.desk_args.specs.Asides.{IsNoted, IsSpan, IsDetail}

pub record IsOrder (around : Around) (found : Text × List Row) (order : Invocation) : Type 0 where
  pub request : IsAsked around found order.request
  pub source : IsFrom found order.source
  pub address : IsNoted found order.address
  pub span : IsSpan found.1 order.span
  pub detail : IsDetail found.1 order.detail
  pub volumes : option_map (λ text. text.now) order.volumes ≡ first_of (codes "volumes") found.1

abbrev pub IsOrdered : Around → Option (Text × List Row) → Invocation → Type 0
IsOrdered around None order = ⊥
IsOrdered around (Some found) order = IsOrder around found order

-- they order nothing
abbrev pub IsNoOrder : Around → Option (Text × List Row) → Type 0
IsNoOrder around found = (order : Invocation) → IsOrdered around found order → ⊥
