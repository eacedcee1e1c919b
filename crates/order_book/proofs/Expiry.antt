-- When a lease has ended.
use Rattle.std.specs.Prelude.{◌≡◌, ℕ, ◌≤◌, Option, Some, None}
use Rattle.std.proofs.Common.{subst}
use Rattle.prefix_range.specs.Prefix.{Prefix}
use Rattle.book_state.specs.Book.{BookState}
use Rattle.unit_index.specs.Queries.{IsToExpire, IsFirstExpiry}

pub first_by_then : (b : BookState) (found : Option ℕ) (now : ℕ) (p : Prefix) → IsFirstExpiry b found
    → IsToExpire b now p
    → (first : ℕ) → found ≡ Some first → first ≤ now
first_by_then b None now p h x first is = absurd cc
first_by_then b (Some end) now p h x first is =
    let same : end ≡ first = cc in
    subst (λ n. n ≤ now) same (h.1 now p x)

pub none_to_expire : (b : BookState) (found : Option ℕ) (now : ℕ) (p : Prefix) → IsFirstExpiry b found
    → IsToExpire b now p
    → found ≡ None → ⊥
none_to_expire b None now p h x is = h now p x
none_to_expire b (Some end) now p h x is = absurd cc
