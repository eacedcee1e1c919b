use Rattle.std.specs.Prelude.{None}
use Rattle.dhcp6_pd.specs.Rows.{row_of, folded}
use Rattle.dhcp6_pd.specs.Associations.{with_hint}
use Rattle.dhcp6_pd.proofs.Folding.{IsFolded, row_length}
use Rattle.dhcp6_pd.proofs.ia.hint_in.Given as goal

abbrev pub invariant-loop-option : goal.invariant-loop-option
invariant-loop-option l = IsFolded with_hint l.hint (row_of l.options.rest.now)
    (folded with_hint None (row_of l.octets))

abbrev pub decreases-loop-option : goal.decreases-loop-option
decreases-loop-option l = row_length (row_of l.options.rest.now)
