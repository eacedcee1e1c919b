use Rattle.std.proofs.Common.{length}
use Rattle.node_run.proofs.running.run_node.Given as goal

abbrev pub ghosts-serve-N-Ledger : goal.ghosts-serve-N-Ledger
ghosts-serve-N-Ledger g a = record { name = a.blank.name; parts = a.blank.parts }

abbrev pub ghosts-serve-N-BookName : goal.ghosts-serve-N-BookName
ghosts-serve-N-BookName g a = record { passes = a.blank.parts; opened = length a.book.lines }
