use Rattle.std.proofs.Common.{◌≡◌, take}
use Rattle.router_options.specs.Given.{names_octets}
use Rattle.router_options.proofs.options.names_octets.Given as goal

abbrev pub invariant-loop-name : goal.invariant-loop-name
invariant-loop-name l = l.octets.items ≡ names_octets (take l.name-index l.names)
