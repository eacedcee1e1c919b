use Rattle.std.proofs.Common.{length}
use Rattle.node_tests.proofs.passes.one_to_sixty_four_passes_share_a_book.Given as goal

abbrev pub ghosts-refused-N-Ledger : goal.ghosts-refused-N-Ledger
ghosts-refused-N-Ledger g a = record { name = a.blank.name; parts = a.blank.parts }

abbrev pub ghosts-refused-N-BookName : goal.ghosts-refused-N-BookName
ghosts-refused-N-BookName g a = record { passes = a.blank.parts; opened = length a.book.lines }
