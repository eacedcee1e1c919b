-- The last receipt of a book with a line.
use Rattle.std.specs.Prelude.{◌≡◌, ℕ, suc, ◌+◌, ◌<◌, List, [], ◌∷◌, length}
use Rattle.std.specs.Prelude.{Option}
use Rattle.std.proofs.Common.{refl, ap, sym, subst, arith}
use Rattle.journal_lines.specs.declared.line.Line.{Line}
use Rattle.journal_lines.specs.Head.{volume_number}
use Rattle.book_state.specs.Book.{BookState, blank}
use Rattle.book_state.specs.Effects.{after}
use Rattle.locked_book.specs.declared.receipt.Receipt.{Receipt}
use Rattle.locked_book.specs.Serving.{last_receipt, ReceiptStands}
use Rattle.client_service.specs.Lines.{receipts_from, receipts_of}
use Rattle.client_service.proofs.Books.{last_stands}
use Rattle.server_core.specs.Served.{ServedState, receipts_in}
use Rattle.server_core.proofs.Lists.{last_behind}

as_many : (count : ℕ) (b : BookState) (ls : List Line) → length (receipts_from count b ls) ≡ length ls
as_many count b [] = refl
as_many count b (l ∷ ls) = ap suc (as_many (count + 1) (after b l) ls)

-- the last receipt is of the book's last line, where the book has a line
pub last_is_own : (s : ServedState) → 0 < length s.journal.lines
    → ReceiptStands s.journal.lines (last_receipt (receipts_in s))
last_is_own s some =
    let j = s.journal in
    let many = as_many 0 (blank j.role (volume_number j.head)) j.lines in
    let last : last_receipt (receipts_in s) ≡ last_receipt (receipts_of j) =
    last_behind s.older (receipts_of j) (omega (arith, many, some)) in
    subst (λ (o : Option Receipt). ReceiptStands j.lines o) (sym last) (last_stands j)
