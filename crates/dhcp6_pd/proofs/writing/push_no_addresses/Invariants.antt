use Rattle.std.proofs.Common.{◌≡◌, ◌++◌, take}
use Rattle.std.specs.List.{flat_map}
use Rattle.dhcp6_pd.specs.Layout.{no_address_octets}
use Rattle.dhcp6_pd.proofs.writing.push_no_addresses.Given as goal

abbrev pub invariant-loop-iaid : goal.invariant-loop-iaid
invariant-loop-iaid l = l.out.items ≡ l.fn.out.items ++ flat_map no_address_octets (take l.iaid-index l.iaids)
