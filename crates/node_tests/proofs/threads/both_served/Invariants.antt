use Rattle.std.proofs.Common.{length}
use Rattle.node_tests.proofs.threads.both_served.Given as goal

abbrev pub ghosts-by_two-N-Ledger : goal.ghosts-by_two-N-Ledger
ghosts-by_two-N-Ledger g a = record { name = a.blank.name; parts = a.blank.parts }

abbrev pub ghosts-by_two-N-BookName : goal.ghosts-by_two-N-BookName
ghosts-by_two-N-BookName g a = record { passes = a.blank.parts; opened = length a.book.lines }
