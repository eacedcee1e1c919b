use Rattle.dhcp6_pd.specs.Rows.{row_of, folded}
use Rattle.dhcp6_pd.proofs.Folding.{IsFolded, row_length}
use Rattle.dhcp6_pd.proofs.keeping.store_options.Given as goal

abbrev pub invariant-loop-option : goal.invariant-loop-option
invariant-loop-option g l = IsFolded g.K.OptionSink.step l.kept (row_of l.options.rest.now)
    (folded g.K.OptionSink.step l.fn.kept (row_of l.fn.options.rest.now))

abbrev pub decreases-loop-option : goal.decreases-loop-option
decreases-loop-option g l = row_length (row_of l.options.rest.now)
