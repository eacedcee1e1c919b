-- Which unit an order is about (RFC 8415, sections 18.3.2 to 18.3.7: what a server gives, renews and takes back).
use Rattle.std.specs.Prelude.{◌≡◌, ◌⊎◌, Some}
use Rattle.prefix_range.specs.Prefix.{Prefix}
use Rattle.book_state.specs.Book.{BookState}
use Rattle.unit_index.specs.Units.{IsUsable, IsBoundTo, IsLowest}
use Rattle.order_book.specs.declared.order.LeaseRequest.{LeaseRequest}

-- the prefix that the client names is one that it has
abbrev pub IsHinted : BookState → LeaseRequest → Prefix → Type 0
IsHinted b a p = (a.hint ≡ Some p) × IsBoundTo b a.client a.iaid p

-- what the client names, where it has that; else the lowest that it has
abbrev pub IsBound : BookState → LeaseRequest → Prefix → Type 0
IsBound b a p =
    IsHinted b a p ⊎ (((q : Prefix) → IsHinted b a q → ⊥) × IsLowest (IsBoundTo b a.client a.iaid) p)

-- what a Request is given: what the client has, else the lowest unit that the server may give
abbrev pub IsOffered : BookState → LeaseRequest → Prefix → Type 0
IsOffered b a p = IsBound b a p ⊎ (((q : Prefix) → IsBound b a q → ⊥) × IsLowest (IsUsable b) p)
