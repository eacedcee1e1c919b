-- What a pass knows of the book, and what a call under the lock answers.
use Rattle.std.specs.Prelude.{◌≡◌, ◌≢◌, ℕ, zero, suc, ◌+◌, ◌-◌, false, true, List, [], ◌∷◌, ◌++◌, length, slice_get}
use Rattle.std.specs.Prelude.{Option, Some, None, IfSome, MatchOption, Result, Ok, Err}
use Rattle.prefix_range.specs.Prefix.{Prefix}
use Rattle.binding_rules.specs.declared.unit.Unit.{Unit as UnitValue}
use Rattle.journal_lines.specs.declared.line.Line.{Line}
use Rattle.journal_lines.specs.declared.line.Journal.{Journal}
use Rattle.book_state.specs.Book.{BookState, is_unit}
use Rattle.order_book.specs.declared.order.Order.{Order}
use Rattle.order_book.specs.declared.reply.Reply.TheVariants.{Granted}
use Rattle.order_book.specs.Answer.{IsAnswer, IsFirstRefusal, IsRefusal}
use Rattle.unit_index.specs.Units.{IsLeastOf, IsUsable}
use Rattle.unit_index.specs.Queries.{IsToExpire, IsFirstExpiry, IsToSeize, HasReply, HasChange, HasMark}
use Rattle.order_book.specs.Replayed.{state_of}
use Rattle.locked_book.specs.declared.receipt.Receipt.{Receipt}
use Rattle.locked_book.specs.declared.receipt.Look.{Look}
use Rattle.locked_book.specs.declared.receipt.PendingWork.{PendingWork}
use Rattle.locked_book.specs.declared.error.ServeError.{ServeError}
use Rattle.locked_book.specs.declared.error.ServeError.TheVariants.{Stranger, Book, Memory}

-- the value behind the lock: the book, how many lines it was opened with, and the total of the ledger
pub record KeptBook : Type 0 where
  pub journal : Journal
  pub opened : ℕ
  pub total : ℕ

-- a pass: its receipts in order, and its share of the ledger's total
pub record PassState : Type 0 where
  pub receipts : List Receipt
  pub share : ℕ

-- lines are numbered from 1
abbrev pub line_at : List Line → ℕ → Option Line
line_at lines zero = None
line_at lines (suc before) = slice_get lines before

abbrev pub last_receipt : List Receipt → Option Receipt
last_receipt receipts = slice_get receipts (length receipts - 1)

-- the line of this receipt, if there is one, stands at its number
abbrev pub ReceiptStands : List Line → Option Receipt → Type 0
ReceiptStands lines last = IfSome last (λ r. line_at lines r.number ≡ Some r.line)

-- the line that was found isn't the receipt's
abbrev pub IsStrange : List Line → Option Receipt → ℕ → Option Line → Type 0
IsStrange lines last number found =
    (r : Receipt) × (last ≡ Some r) × (number ≡ r.number) × (found ≡ line_at lines number) × (found ≢ Some r.line)

-- the only refusal is that the line that was found isn't the last receipt's
abbrev pub HasItsReceipt : List Line → Option Receipt → Result (Unit {0}) ServeError → Type 0
HasItsReceipt lines last (Ok done) = ReceiptStands lines last
HasItsReceipt lines last (Err (Stranger number found)) = IsStrange lines last number found
HasItsReceipt lines last (Err _) = ⊥

-- ---- answers at a journal, for a pass with this last receipt

-- an order's, which adds a line
abbrev pub IsPassServed : Journal → Option Receipt → ℕ → Order → Result Receipt ServeError → Type 0
IsPassServed j last now order (Ok r) =
    ReceiptStands j.lines last × IsAnswer (state_of j) now order r.line r.reply × (r.number ≡ length j.lines + 1)
IsPassServed j last now order (Err (Stranger number found)) = IsStrange j.lines last number found
IsPassServed j last now order (Err (Book e)) = ReceiptStands j.lines last × IsRefusal (state_of j) now order e
IsPassServed j last now order (Err Memory) = ReceiptStands j.lines last

-- an offer's: what a Request would be given
abbrev pub IsPassOffered : Journal → Option Receipt → ℕ → Order → Result (Prefix × ℕ) ServeError → Type 0
IsPassOffered j last now order (Ok g) =
    ReceiptStands j.lines last × (l : Line) × IsAnswer (state_of j) now order l (Granted g.0 g.1)
IsPassOffered j last now order (Err (Stranger number found)) = IsStrange j.lines last number found
IsPassOffered j last now order (Err (Book e)) = ReceiptStands j.lines last × IsFirstRefusal (state_of j) now order e
IsPassOffered j last now order (Err Memory) = ⊥

-- the unit of a prefix, if it is one
abbrev pub IsUnitFound : BookState → Prefix → Option UnitValue → Type 0
IsUnitFound b p found =
    MatchOption found (is_unit b.pools p ≡ false) (λ u. (is_unit b.pools p ≡ true) × (u ≡ b.units p))

pub record IsLook (j : Journal) (p : Prefix) (look : Look) : Type 0 where
  pub lines : look.lines ≡ length j.lines
  pub unit : IsUnitFound (state_of j) p look.unit
  pub waiting : look.waiting ≡ (state_of j).waiting
  pub down : look.down ≡ (state_of j).down

abbrev pub IsLooked : Journal → Option Receipt → Prefix → Result Look ServeError → Type 0
IsLooked j last p (Ok look) = ReceiptStands j.lines last × IsLook j p look
IsLooked j last p (Err (Stranger number found)) = IsStrange j.lines last number found
IsLooked j last p (Err _) = ⊥

-- what there is to do at a reading; of what is to be sent, for units that begin at an address or above
pub record IsWork (j : Journal) (now from : ℕ) (work : PendingWork) : Type 0 where
  pub lines : work.lines ≡ length j.lines
  pub expired : IsLeastOf (IsToExpire (state_of j) now) work.expired
  pub expiry : IsFirstExpiry (state_of j) work.expiry
  pub reply : IsLeastOf (HasReply (state_of j) from) work.reply
  pub change : IsLeastOf (HasChange (state_of j) from) work.change
  pub mark : IsLeastOf (HasMark (state_of j) from) work.mark
  pub seizable : IsLeastOf (IsToSeize (state_of j) now) work.seizable
  pub usable : IsLeastOf (IsUsable (state_of j)) work.usable
  pub waiting : work.waiting ≡ (state_of j).waiting
  pub down : work.down ≡ (state_of j).down

abbrev pub IsWorkFound : Journal → Option Receipt → ℕ → ℕ → Result PendingWork ServeError → Type 0
IsWorkFound j last now from (Ok work) = ReceiptStands j.lines last × IsWork j now from work
IsWorkFound j last now from (Err (Stranger number found)) = IsStrange j.lines last number found
IsWorkFound j last now from (Err _) = ⊥

-- ---- the change

-- the receipt's line was added to the book and the receipt to the pass, and nothing else has changed
pub record IsEntered (old new : KeptBook) (had has : PassState) (r : Receipt) : Type 0 where
  pub journal : new.journal ≡ record old.journal { lines = old.journal.lines ++ r.line ∷ [] }
  pub receipts : has.receipts ≡ had.receipts ++ r ∷ []
  pub opened : new.opened ≡ old.opened
  pub total : new.total ≡ old.total + 1
  pub share : has.share ≡ had.share + 1
