use Rattle.std.proofs.Common.{length}
use Rattle.node_tests.proofs.quiet_wires.tell_of.Given as goal

abbrev pub ghosts-hears-N-Ledger : goal.ghosts-hears-N-Ledger
ghosts-hears-N-Ledger g a = record { name = a.blank.name; parts = a.blank.parts }

abbrev pub ghosts-hears-N-BookName : goal.ghosts-hears-N-BookName
ghosts-hears-N-BookName g a = record { passes = a.blank.parts; opened = length a.book.lines }
