use Rattle.std.proofs.Common.{◌≡◌, take}
use Rattle.client_limits.specs.Holders.{without}
use Rattle.client_limits.proofs.listing.without.Given as goal

abbrev pub invariant-loop-unit : goal.invariant-loop-unit
invariant-loop-unit l = l.rest.items ≡ without l.fn.address (take l.unit-index l.fn.units)
