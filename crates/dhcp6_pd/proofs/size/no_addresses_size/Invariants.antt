use Rattle.std.proofs.Common.{◌≡◌, ◌+◌, ◌≤◌, length, drop}
use Rattle.std.specs.List.{flat_map}
use Rattle.dhcp6_pd.specs.Layout.{no_address_octets}
use Rattle.dhcp6_pd.proofs.size.no_addresses_size.Given as goal

abbrev pub invariant-loop-iaid : goal.invariant-loop-iaid
invariant-loop-iaid l = record {
  few : l.size ≤ 65535;
  so_far : l.size + length (flat_map no_address_octets (drop l._iaid-index l.iaids))
      ≡ l.before + length (flat_map no_address_octets l.iaids);
}
