use Rattle.std.proofs.Common.{◌≡◌, ◌++◌, take}
use Rattle.std.specs.List.{flat_map}
use Rattle.dhcp6_pd.specs.Layout.{ready_octets}
use Rattle.dhcp6_pd.proofs.writing.push_options.Given as goal

abbrev pub invariant-loop-option : goal.invariant-loop-option
invariant-loop-option l = l.out.items ≡ l.fn.out.items ++ flat_map ready_octets (take l.option-index l.options)
