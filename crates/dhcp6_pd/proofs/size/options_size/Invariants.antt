use Rattle.std.proofs.Common.{◌≡◌, ◌+◌, ◌≤◌, length, drop}
use Rattle.std.specs.List.{flat_map}
use Rattle.dhcp6_pd.specs.Layout.{ready_octets}
use Rattle.dhcp6_pd.proofs.size.options_size.Given as goal

abbrev pub invariant-loop-option : goal.invariant-loop-option
invariant-loop-option l = record {
  few : l.size ≤ 65535;
  so_far : l.size + length (flat_map ready_octets (drop l.option-index l.options))
      ≡ l.before + length (flat_map ready_octets l.options);
}
