-- Receipts as lines: those of all lines of a book, and the last that a client is told of.
use Rattle.std.specs.Prelude.{ℕ, ◌+◌, Bool, true, false, List, [], ◌∷◌, Option, Some, None, if◌then◌else◌}
use Rattle.journal_lines.specs.declared.event.Event.{Event}
use Rattle.journal_lines.specs.declared.event.Event.TheVariants.{Seize}
use Rattle.journal_lines.specs.declared.line.Line.{Line}
use Rattle.journal_lines.specs.declared.line.Journal.{Journal}
use Rattle.journal_lines.specs.Head.{volume_number}
use Rattle.book_state.specs.Book.{BookState, blank}
use Rattle.book_state.specs.Effects.{after}
use Rattle.order_book.specs.Answer.{reply_to}
use Rattle.locked_book.specs.declared.receipt.Receipt.{Receipt}

-- ---- a book that nobody else serves

-- a receipt for each line behind so many, each with the reply that the line had
abbrev pub receipts_from : ℕ → BookState → List Line → List Receipt
receipts_from count b [] = []
receipts_from count b (l ∷ ls) =
    record { number = count + 1; line = l; reply = reply_to b l.reading l.event }
    ∷ receipts_from (count + 1) (after b l) ls

-- for all lines of the journal, the opening ones too
abbrev pub receipts_of : Journal → List Receipt
receipts_of j = receipts_from 0 (blank j.role (volume_number j.head)) j.lines

-- ---- takeovers

-- a unit of the partner's was taken over: no client is told of that
abbrev pub is_takeover : Event → Bool
is_takeover (Seize prefix) = true
is_takeover _ = false

abbrev pub number_of : Receipt → Option ℕ
number_of r = if is_takeover r.line.event then None else Some r.number

abbrev pub or_earlier : Option ℕ → Option ℕ → Option ℕ
or_earlier (Some number) earlier = Some number
or_earlier None earlier = earlier

-- the number of the last line, takeovers apart; none where there is no other
abbrev pub last_number : List Receipt → Option ℕ
last_number [] = None
last_number (r ∷ rs) = or_earlier (last_number rs) (number_of r)
