use Rattle.std.proofs.Common.{length}
use Rattle.node_tests.proofs.ends.check.Given as goal

abbrev pub ghosts-left-N-Ledger : goal.ghosts-left-N-Ledger
ghosts-left-N-Ledger g a = record { name = a.blank.name; parts = a.blank.parts }

abbrev pub ghosts-left-N-BookName : goal.ghosts-left-N-BookName
ghosts-left-N-BookName g a = record { passes = a.blank.parts; opened = length a.book.lines }
