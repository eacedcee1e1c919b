use Rattle.std.proofs.Common.{subst}
use Rattle.unit_index.specs.Queries.{IsFirstExpiry}
use Rattle.order_book.proofs.Expiry.{first_by_then, none_to_expire}
use Rattle.order_book.proofs.book.Book.has_ended_lease.Goals as goal

pub returns-in-Some : goal.returns-in-Some
returns-in-Some c p x =
    let first = subst (λ b. IsFirstExpiry b c.first_end.result) c.register.ensures c.first_end.ensures in
    c.is_past.ensures.1 (first_by_then _ _ _ p first x _ c.in-Some.is)

pub returns-in-None : goal.returns-in-None
returns-in-None c p x =
    let first = subst (λ b. IsFirstExpiry b c.first_end.result) c.register.ensures c.first_end.ensures in
    absurd (none_to_expire _ _ _ p first x c.in-None.is)
