use Rattle.std.proofs.Common.{length}
use Rattle.node_tests.proofs.passes.all_passes_close.Given as goal

abbrev pub ghosts-with_one_missing-N-Ledger : goal.ghosts-with_one_missing-N-Ledger
ghosts-with_one_missing-N-Ledger g a = record { name = a.blank.name; parts = a.blank.parts }

abbrev pub ghosts-with_one_missing-N-BookName : goal.ghosts-with_one_missing-N-BookName
ghosts-with_one_missing-N-BookName g a = record { passes = a.blank.parts; opened = length a.book.lines }
