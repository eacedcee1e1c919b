use Rattle.std.proofs.Common.{◌≡◌, ◌+◌, ◌≤◌, length, drop}
use Rattle.std.specs.List.{flat_map}
use Rattle.dhcp6_pd.specs.Layout.{ia_octets}
use Rattle.dhcp6_pd.proofs.size.ias_size.Given as goal

abbrev pub invariant-loop-reply : goal.invariant-loop-reply
invariant-loop-reply l = record {
  few : l.size ≤ 65535;
  so_far : l.size + length (flat_map ia_octets (drop l.reply-index l.ias))
      ≡ l.before + length (flat_map ia_octets l.ias);
}
