-- What a book answers to one who knows it by receipts, and shares it with others, or with nobody.
use Rattle.std.specs.Prelude.{ℕ, ⊤, List, Option, Some, Result, Ok, Err}
use Rattle.prefix_range.specs.Prefix.{Prefix}
use Rattle.journal_lines.specs.declared.line.Journal.{Journal}
use Rattle.unit_index.specs.Units.{IsLeastOf}
use Rattle.unit_index.specs.Queries.{IsToSeize}
use Rattle.order_book.specs.declared.order.Order.{Order}
use Rattle.order_book.specs.Replayed.{IsLegal, state_of}
use Rattle.order_book.specs.Answer.{IsFirstRefusal}
use Rattle.locked_book.specs.declared.receipt.Receipt.{Receipt}
use Rattle.locked_book.specs.declared.error.ServeError.{ServeError}
use Rattle.locked_book.specs.declared.error.ServeError.TheVariants.{Stranger, Book}
use Rattle.locked_book.specs.Serving.{last_receipt, ReceiptStands, IsStrange, IsPassServed, IsPassOffered}
use Rattle.client_service.specs.declared.reusable_lease.ReusableLease.{ReusableLease}
use Rattle.client_service.specs.declared.terms.ReuseTerms.{ReuseTerms}
use Rattle.client_service.specs.ReusableLeases.{IsReusable}

-- at a legal journal that the book may have, of whom these receipts are known
abbrev pub AtJournal : (List Receipt → Journal → Type 0) → List Receipt → (Journal → Type 0) → Type 0
AtJournal MayHave had Holds = (j : Journal) × IsLegal j × MayHave had j × Holds j

-- an order's answer: the receipt of one line, or a refusal
abbrev pub IsOrderServed : (List Receipt → Journal → Type 0) → ℕ → List Receipt → Order
    → Result Receipt ServeError → Type 0
IsOrderServed MayHave now had order result =
    AtJournal MayHave had (λ j. IsPassServed j (last_receipt had) now order result)

-- what a Request would be given, or a refusal
abbrev pub IsOfferMade : (List Receipt → Journal → Type 0) → ℕ → List Receipt → Order
    → Result (Prefix × ℕ) ServeError → Type 0
IsOfferMade MayHave now had order result =
    AtJournal MayHave had (λ j. IsPassOffered j (last_receipt had) now order result)

-- at a journal, for whoever had this receipt last: the lowest unit that may be taken over
abbrev pub IsSeizableFor : Journal → Option Receipt → ℕ → Result (Option Prefix) ServeError → Type 0
IsSeizableFor j last now (Ok found) = ReceiptStands j.lines last × IsLeastOf (IsToSeize (state_of j) now) found
IsSeizableFor j last now (Err (Stranger number line)) = IsStrange j.lines last number line
IsSeizableFor j last now (Err _) = ⊥

abbrev pub IsSeizableFound : (List Receipt → Journal → Type 0) → ℕ → List Receipt
    → Result (Option Prefix) ServeError → Type 0
IsSeizableFound MayHave now had result = AtJournal MayHave had (λ j. IsSeizableFor j (last_receipt had) now result)

-- at a journal with the last receipt's line
abbrev pub AtBook : (List Receipt → Journal → Type 0) → List Receipt → (Journal → Type 0) → Type 0
AtBook MayHave had Holds = AtJournal MayHave had (λ j. ReceiptStands j.lines (last_receipt had) × Holds j)

-- what an order's client has that may be told again, or the first refusal; where there is neither nothing is said
abbrev pub IsRecalled : (List Receipt → Journal → Type 0) → ReuseTerms → ℕ → List Receipt → Order
    → Result (Option ReusableLease) ServeError → Type 0
IsRecalled MayHave t now had order (Ok (Some s)) = AtBook MayHave had (λ j. IsReusable j t now order s)
IsRecalled MayHave t now had order (Err (Book e)) = AtBook MayHave had (λ j. IsFirstRefusal (state_of j) now order e)
IsRecalled MayHave t now had order _ = ⊤
