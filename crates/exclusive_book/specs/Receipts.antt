-- Receipts of orders that were given to a book itself.
use Rattle.std.specs.Prelude.{List, [], ◌∷◌, Option, Some, None}
use Rattle.journal_lines.specs.declared.line.Line.{Line}
use Rattle.order_book.specs.declared.reply.Reply.{Reply}
use Rattle.locked_book.specs.declared.receipt.Receipt.{Receipt}

-- the receipt of a line to which this was replied
abbrev pub receipt_of : Option Line → Reply → List Receipt
receipt_of None reply = []
receipt_of (Some line) reply = record { number = line.number; line = line; reply = reply } ∷ []
