use Rattle.dhcp6_pd.specs.Rows.{row_of}
use Rattle.dhcp6_pd.specs.Faults.{to_message}
use Rattle.dhcp6_pd.proofs.Folding.{row_length}
use Rattle.dhcp6_pd.proofs.UpToMessage.{IsOnTheWay}
use Rattle.dhcp6_pd.proofs.relay_options.RelayOptions.to_message.Given as goal

abbrev pub invariant-loop-option : goal.invariant-loop-option
invariant-loop-option l = IsOnTheWay l.self (row_of l.options.rest.now)
    (to_message l.fn.self (row_of l.fn.options.rest.now))

abbrev pub decreases-loop-option : goal.decreases-loop-option
decreases-loop-option l = row_length (row_of l.options.rest.now)
