use Rattle.std.proofs.Common.{◌≡◌, take}
use Rattle.router_options.specs.Given.{addresses_octets}
use Rattle.router_options.proofs.options.addresses_octets.Given as goal

abbrev pub invariant-loop-address : goal.invariant-loop-address
invariant-loop-address l = l.octets.items ≡ addresses_octets (take l.address-index l.addresses)
