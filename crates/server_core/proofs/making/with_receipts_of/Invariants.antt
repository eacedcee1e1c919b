use Rattle.std.proofs.Common.{◌++◌}
use Rattle.book_rules.specs.State.{state}
use Rattle.client_service.specs.Lines.{receipts_of}
use Rattle.server_core.proofs.LineReceipts.{IsAt}
use Rattle.server_core.proofs.making.with_receipts_of.Given as goal

abbrev pub invariant-loop-line : goal.invariant-loop-line
invariant-loop-line l =
    IsAt (l.initial.receipts.items ++ receipts_of l.book) l.line-items l.line-index (state l.table) l.receipts.items
