use Rattle.std.proofs.Common.{◌≡◌, ◌++◌, length}
use Rattle.dhcp6_pd.specs.RequestedItems.{codes_of}
use Rattle.dhcp6_pd.proofs.requested_items.codes_of.Given as goal

abbrev pub invariant-loop-rest : goal.invariant-loop-rest
invariant-loop-rest l = l.codes.items ++ codes_of l.rest ≡ codes_of l.octets

abbrev pub decreases-loop-rest : goal.decreases-loop-rest
decreases-loop-rest l = length l.rest
