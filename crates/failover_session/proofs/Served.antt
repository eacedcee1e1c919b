-- What a shared book serves is named by its order.
use Rattle.std.specs.Prelude.{ℕ, Result, Ok, Err, IfOk}
use Rattle.journal_lines.specs.declared.line.Journal.{Journal}
use Rattle.order_book.specs.declared.order.Order.{Order}
use Rattle.order_book.specs.Replayed.{IsLegal, state_of}
use Rattle.locked_book.specs.declared.error.ServeError.{ServeError}
use Rattle.locked_book.specs.declared.receipt.Receipt.{Receipt}
use Rattle.locked_book.specs.Serving.{IsPassServed, PassState, last_receipt}
use Rattle.failover_session.specs.Receipts.{IsNamedBy}

pub served_is_named : (old : PassState) (now : ℕ) (order : Order) (result : Result Receipt ServeError)
    → ((j : Journal) × IsLegal j × IsPassServed j (last_receipt old.receipts) now order result)
    → IfOk result (λ r. IsNamedBy order r.line)
served_is_named old now order (Ok r) served = (state_of served.0, served.2.1.line.named)
served_is_named old now order (Err e) served = tt
