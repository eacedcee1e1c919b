use Rattle.std.proofs.Common.{length}
use Rattle.node_tests.proofs.full_books.told.Given as goal

abbrev pub ghosts-serve_all-N-Ledger : goal.ghosts-serve_all-N-Ledger
ghosts-serve_all-N-Ledger g a = record { name = a.blank.name; parts = a.blank.parts }

abbrev pub ghosts-serve_all-N-BookName : goal.ghosts-serve_all-N-BookName
ghosts-serve_all-N-BookName g a = record { passes = a.blank.parts; opened = length a.book.lines }
