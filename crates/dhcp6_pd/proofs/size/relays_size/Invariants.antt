use Rattle.std.proofs.Common.{◌≡◌, ◌+◌, ◌≤◌, drop}
use Rattle.std.specs.Prelude.{sum_by}
use Rattle.dhcp6_pd.specs.Size.{relay_size}
use Rattle.dhcp6_pd.proofs.size.relays_size.Given as goal

abbrev pub invariant-loop-relay : goal.invariant-loop-relay
invariant-loop-relay l = record {
  few : l.size ≤ 65535;
  so_far : l.size + sum_by relay_size (drop l.relay-index l.relays) ≡ l.before + sum_by relay_size l.relays;
}
