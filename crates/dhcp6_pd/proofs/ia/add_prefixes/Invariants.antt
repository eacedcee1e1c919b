use Rattle.std.proofs.Common.{◌≡◌, ◌++◌}
use Rattle.dhcp6_pd.specs.Rows.{row_of}
use Rattle.dhcp6_pd.specs.Associations.{read_prefixes, for_each, prefixes_in}
use Rattle.dhcp6_pd.proofs.Folding.{row_length}
use Rattle.dhcp6_pd.proofs.ia.add_prefixes.Given as goal

abbrev pub invariant-loop-option : goal.invariant-loop-option
invariant-loop-option l = l.ias ++ for_each l.part l.iaid (read_prefixes (row_of l.options.rest.now))
    ≡ l.fn.ias ++ prefixes_in l.octets

abbrev pub decreases-loop-option : goal.decreases-loop-option
decreases-loop-option l = row_length (row_of l.options.rest.now)
