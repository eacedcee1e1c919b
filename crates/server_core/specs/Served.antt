-- A book with the receipts of its lines, and what an order makes of it.
use Rattle.std.specs.Prelude.{◌≡◌, ℕ, ◌+◌, ⊤, List, [], ◌∷◌, ◌++◌, length}
use Rattle.journal_lines.specs.declared.line.Journal.{Journal}
use Rattle.order_book.specs.declared.order.Order.{Order}
use Rattle.order_book.specs.declared.error.BookError.{BookError}
use Rattle.order_book.specs.declared.error.BookError.TheVariants.{Memory}
use Rattle.order_book.specs.Answer.{IsAnswer, IsFirstRefusal}
use Rattle.order_book.specs.Replayed.{state_of, with_line}
use Rattle.locked_book.specs.declared.receipt.Receipt.{Receipt}
use Rattle.client_service.specs.Lines.{receipts_of}

-- the journal of the volume that is written now, and the receipts of older volumes' lines
pub record ServedState : Type 0 where
  pub journal : Journal
  pub older : List Receipt

-- the older ones, and then one for each line
abbrev pub receipts_in : ServedState → List Receipt
receipts_in s = s.older ++ receipts_of s.journal

-- an order was answered by one line more, and this is its receipt
pub record IsEntered (was is : Journal) (had has : List Receipt) (now : ℕ) (order : Order) (r : Receipt)
    : Type 0 where
  pub answer : IsAnswer (state_of was) now order r.line r.reply
  pub number : r.number ≡ length was.lines + 1
  pub journal : is ≡ with_line was r.line
  pub receipts : has ≡ had ++ r ∷ []

-- the same of a book with its receipts: those of older volumes stay
pub record IsApplied (old new : ServedState) (now : ℕ) (order : Order) (r : Receipt) : Type 0 where
  pub entered : IsEntered old.journal new.journal (receipts_in old) (receipts_in new) now order r
  pub older : new.older ≡ old.older

-- why an order adds nothing: its first refusal, or want of memory, which may be told of any order
abbrev pub IsNotEntered : Journal → ℕ → Order → BookError → Type 0
IsNotEntered j now order Memory = ⊤
IsNotEntered j now order e = IsFirstRefusal (state_of j) now order e
