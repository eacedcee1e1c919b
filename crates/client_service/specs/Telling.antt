-- What a client is told of one IA_PD, for a pass that had these receipts: by the receipt of the order's line, by a
-- refusal, or of a SOLICIT by an offer; and which receipts were added (RFC 8415, sections 18.3.1 to 18.3.7).
use Rattle.std.specs.Prelude.{◌≡◌, ◌≢◌, ◌⊎◌, ℕ, ⊤, List, [], ◌∷◌, ◌++◌, Some, None, Result, Ok, Err}
use Rattle.prefix_range.specs.Prefix.{Prefix}
use Rattle.client_service.specs.declared.permit.Permit.{Permit}
use Rattle.client_service.specs.declared.permit.Permit.TheVariants.{Allowed, Anew, Denied, Unbound, Omitted}
use Rattle.dhcp6_pd.specs.declared.message.ClientKind.{ClientKind}
use Rattle.dhcp6_pd.specs.declared.message.ClientKind.TheVariants.{Solicit}
use Rattle.journal_lines.specs.declared.line.Journal.{Journal}
use Rattle.order_book.specs.declared.order.Order.{Order}
use Rattle.order_book.specs.declared.order.Order.TheVariants.{Request, Renew, Release, Seize}
use Rattle.order_book.specs.declared.reply.Reply.{Reply}
use Rattle.order_book.specs.declared.reply.Reply.TheVariants.{Granted, Released as ReleasedReply}
use Rattle.order_book.specs.declared.error.BookError.{BookError}
use Rattle.order_book.specs.declared.error.BookError.TheVariants.{NoPrefix as NoPrefixLeft, NoBinding as NoSuchBinding}
use Rattle.order_book.specs.Answer.{IsFirstRefusal}
use Rattle.order_book.specs.Replayed.{state_of}
use Rattle.server_book.specs.declared.messages.IaAnswer.{IaAnswer}
use Rattle.server_book.specs.declared.messages.IaAnswer.TheVariants.{Given, NoPrefix, NoBinding, Released}
use Rattle.locked_book.specs.declared.receipt.Receipt.{Receipt}
use Rattle.locked_book.specs.declared.error.ServeError.{ServeError}
use Rattle.locked_book.specs.declared.error.ServeError.TheVariants.{Book, Stranger}
use Rattle.locked_book.specs.Serving.{last_receipt, ReceiptStands}
use Rattle.client_service.specs.declared.partner_availability.PartnerAvailability.{PartnerAvailability}
use Rattle.client_service.specs.declared.partner_availability.PartnerAvailability.TheVariants.{Up, Down}
use Rattle.client_service.specs.Serving.{AtJournal, IsOrderServed, IsOfferMade, IsSeizableFound}

-- the orders of clients' messages
abbrev pub IsClients : Order → Type 0
IsClients (Request a) = ⊤
IsClients (Renew a) = ⊤
IsClients (Release a) = ⊤
IsClients _ = ⊥

-- ---- what is told

-- one line was written, and its receipt has this reply
abbrev pub ByLine : (List Receipt → Journal → Type 0) → ℕ → List Receipt → Order → List Receipt → Reply → Type 0
ByLine MayHave now had order added reply =
    (r : Receipt) × (added ≡ r ∷ []) × (r.reply ≡ reply) × IsOrderServed MayHave now had order (Ok r)

-- no line was written: at a journal with the last receipt's line, this is the first refusal that applies
abbrev pub ByRefusal : (List Receipt → Journal → Type 0) → ℕ → List Receipt → Order → List Receipt → BookError
    → Type 0
ByRefusal MayHave now had order added e =
    (added ≡ [])
    × AtJournal MayHave had (λ j. ReceiptStands j.lines (last_receipt had) × IsFirstRefusal (state_of j) now order e)

-- an order that was served: what its line granted, or released
abbrev pub IsServedAs : (List Receipt → Journal → Type 0) → ℕ → List Receipt → Order → List Receipt → IaAnswer
    → Type 0
IsServedAs MayHave now had order added (Given prefix valid) = ByLine MayHave now had order added (Granted prefix valid)
IsServedAs MayHave now had order added Released = ByLine MayHave now had order added ReleasedReply
IsServedAs MayHave now had order added NoPrefix = ByRefusal MayHave now had order added NoPrefixLeft
IsServedAs MayHave now had order added NoBinding = ByRefusal MayHave now had order added NoSuchBinding

-- an order that was offered: what a Request would be given; no line was written
abbrev pub IsOfferedAs : (List Receipt → Journal → Type 0) → ℕ → List Receipt → Order → List Receipt → IaAnswer
    → Type 0
IsOfferedAs MayHave now had order added (Given prefix valid) =
    (added ≡ []) × IsOfferMade MayHave now had order (Ok (prefix, valid))
IsOfferedAs MayHave now had order added NoPrefix = ByRefusal MayHave now had order added NoPrefixLeft
IsOfferedAs MayHave now had order added NoBinding = ⊥
IsOfferedAs MayHave now had order added Released = ⊥

-- a SOLICIT's order is offered, any other's is served
abbrev pub IsToldAs : (List Receipt → Journal → Type 0) → ClientKind → ℕ → List Receipt → Order → List Receipt
    → IaAnswer → Type 0
IsToldAs MayHave Solicit now had order added answer = IsOfferedAs MayHave now had order added answer
IsToldAs MayHave kind now had order added answer = IsServedAs MayHave now had order added answer

-- ---- what no client is told

-- a refusal for which the message has no answer
abbrev pub IsUntold : ServeError → Type 0
IsUntold (Book NoPrefixLeft) = ⊥
IsUntold (Book NoSuchBinding) = ⊥
IsUntold e = ⊤

abbrev pub IsRefusedBy : (List Receipt → Journal → Type 0) → ClientKind → ℕ → List Receipt → Order → ServeError
    → Type 0
IsRefusedBy MayHave Solicit now had order e = IsOfferMade MayHave now had order (Err e)
IsRefusedBy MayHave kind now had order e = IsOrderServed MayHave now had order (Err e)

-- ---- what an order ends in

-- by one order
abbrev pub EndsAtOnce : (List Receipt → Journal → Type 0) → ClientKind → ℕ → List Receipt → Order → List Receipt
    → Result IaAnswer ServeError → Type 0
EndsAtOnce MayHave kind now had order added (Ok answer) = IsToldAs MayHave kind now had order added answer
EndsAtOnce MayHave kind now had order added (Err e) =
    (added ≡ []) × IsUntold e × IsRefusedBy MayHave kind now had order e

-- the lowest unit of the partner's that may be taken over was ordered so
abbrev pub IsSeizeServed : (List Receipt → Journal → Type 0) → ℕ → List Receipt → Result Receipt ServeError → Type 0
IsSeizeServed MayHave now had result =
    (p : Prefix) × IsSeizableFound MayHave now had (Ok (Some p)) × IsOrderServed MayHave now had (Seize p) result

abbrev pub IsStranger : ServeError → Type 0
IsStranger (Stranger number line) = ⊤
IsStranger e = ⊥

-- none was: there is none to take over, or the book refuses it
abbrev pub NoneTakenOver : (List Receipt → Journal → Type 0) → ℕ → List Receipt → Type 0
NoneTakenOver MayHave now had =
    IsSeizableFound MayHave now had (Ok None)
    ⊎ ((e : ServeError) × (IsStranger e → ⊥) × IsSeizeServed MayHave now had (Err e))

-- none was, for the book isn't the one that the pass knows
abbrev pub IsStrangeTo : (List Receipt → Journal → Type 0) → ℕ → List Receipt → ServeError → Type 0
IsStrangeTo MayHave now had e =
    IsStranger e × (IsSeizableFound MayHave now had (Err e) ⊎ IsSeizeServed MayHave now had (Err e))

abbrev pub StaysAt : (List Receipt → Journal → Type 0) → ℕ → List Receipt → Result IaAnswer ServeError → Type 0
StaysAt MayHave now had (Ok answer) = (answer ≡ NoPrefix) × NoneTakenOver MayHave now had
StaysAt MayHave now had (Err e) = IsStrangeTo MayHave now had e

-- No prefix was left while the partner is down: it is ordered once more behind a takeover, or it stays at that.
pub record EndsOnceMore (MayHave : List Receipt → Journal → Type 0) (kind : ClientKind) (now : ℕ) (had : List Receipt)
    (order : Order) (added : List Receipt) (result : Result IaAnswer ServeError) : Type 0 where
  pub lacked : IsToldAs MayHave kind now had order [] NoPrefix
  pub goes_on : ((r : Receipt) × (rest : List Receipt) × (added ≡ r ∷ rest) × IsSeizeServed MayHave now had (Ok r)
      × EndsAtOnce MayHave kind now (had ++ r ∷ []) order rest result)
      ⊎ ((added ≡ []) × StaysAt MayHave now had result)

abbrev pub EndsWithSeize : (List Receipt → Journal → Type 0) → PartnerAvailability → ClientKind → ℕ → List Receipt → Order → List Receipt
    → Result IaAnswer ServeError → Type 0
EndsWithSeize MayHave Up kind now had order added result = EndsAtOnce MayHave kind now had order added result
EndsWithSeize MayHave Down kind now had order added result =
    ((result ≢ Ok NoPrefix) × EndsAtOnce MayHave kind now had order added result)
    ⊎ EndsOnceMore MayHave kind now had order added result

-- ---- by its permit

-- An IA_PD that may be ordered ends as its order does. Of one that may not nothing is ordered: it is told NoPrefix, or
-- NoBinding, or, as of a prefix that was taken back, the answer says nothing of it.
abbrev pub EndsBy : (List Receipt → Journal → Type 0) → Permit → PartnerAvailability → ClientKind → ℕ → List Receipt → Order
    → List Receipt → Result IaAnswer ServeError → Type 0
EndsBy MayHave Allowed partner kind now had order added result = EndsWithSeize MayHave partner kind now had order added result
EndsBy MayHave Anew partner kind now had order added result = EndsWithSeize MayHave partner kind now had order added result
EndsBy MayHave Denied partner kind now had order added result = (added ≡ []) × (result ≡ Ok NoPrefix)
EndsBy MayHave Unbound partner kind now had order added result = (added ≡ []) × (result ≡ Ok NoBinding)
EndsBy MayHave Omitted partner kind now had order added result = (added ≡ []) × (result ≡ Ok Released)
