-- What a client is told of its whole message without a line: what it has already, for the seconds that remain of it.
use Rattle.std.specs.Prelude.{◌≡◌, ◌≢◌, false, ℕ, ⊤, max, List, [], ◌∷◌, drop, Option, Some, None}
use Rattle.client_service.specs.declared.permit.Permit.{Permit}
use Rattle.client_service.specs.declared.permit.Permit.TheVariants.{Allowed, Anew, Denied, Unbound, Omitted}
use Rattle.dhcp6_pd.specs.declared.message.ClientKind.TheVariants.{Solicit}
use Rattle.dhcp6_pd.specs.declared.message.ClientMessage.{ClientMessage}
use Rattle.dhcp6_pd.specs.declared.message.IaPd.{IaPd}
use Rattle.dhcp6_pd.specs.Layout.{message_octets}
use Rattle.journal_lines.specs.declared.line.Journal.{Journal}
use Rattle.order_book.specs.declared.order.Order.{Order}
use Rattle.order_book.specs.declared.error.BookError.TheVariants.{NoPrefix as NoPrefixLeft, NoBinding as NoSuchBinding}
use Rattle.server_book.specs.declared.messages.IaAnswer.{IaAnswer}
use Rattle.server_book.specs.declared.messages.IaAnswer.TheVariants.{Given, NoPrefix, NoBinding, Released}
use Rattle.server_book.specs.declared.reply_policy.ReplyPolicy.{ReplyPolicy}
use Rattle.server_book.specs.Messages.{answer_of, is_elsewhere}
use Rattle.locked_book.specs.declared.receipt.Receipt.{Receipt}
use Rattle.client_service.specs.declared.terms.ReuseTerms.{ReuseTerms}
use Rattle.client_service.specs.ReusableLeases.{IsReusable}
use Rattle.client_service.specs.Serving.{AtBook}
use Rattle.client_service.specs.Telling.{ByRefusal}
use Rattle.client_service.specs.Answering.{order_for, permit_at}

-- ---- numbers of lines

abbrev pub later : Option ℕ → Option ℕ → Option ℕ
later (Some a) (Some b) = Some (max a b)
later None b = b
later (Some a) None = Some a

-- the greatest of these and this one
abbrev pub latest_with : Option ℕ → List (Option ℕ) → Option ℕ
latest_with number [] = number
latest_with number (n ∷ ns) = latest_with (later number n) ns

-- the greatest; none where there is none
abbrev pub latest : List (Option ℕ) → Option ℕ
latest numbers = latest_with None numbers

-- ---- what is told

-- Of one IA_PD: what its client has by the line of this number, or the first refusal of its order.
abbrev pub IsReused : (List Receipt → Journal → Type 0) → ReuseTerms → ℕ → List Receipt → Order → IaAnswer → Option ℕ
    → Type 0
IsReused MayHave t now had order (Given p valid) (Some number) =
    AtBook MayHave had (λ j. IsReusable j t now order (record { prefix = p; valid = valid; number = number }))
IsReused MayHave t now had order NoPrefix None = ByRefusal MayHave now had order [] NoPrefixLeft
IsReused MayHave t now had order NoBinding None = ByRefusal MayHave now had order [] NoSuchBinding
IsReused MayHave t now had order _ _ = ⊥

-- and of one by its permit: nothing is told again of one that is to be ordered anew; one that may not be ordered is
-- told NoPrefix, or NoBinding, or nothing, whatever its client has
abbrev pub IsReusedBy : (List Receipt → Journal → Type 0) → Permit → ReuseTerms → ℕ → List Receipt → Order → IaAnswer
    → Option ℕ → Type 0
IsReusedBy MayHave Allowed t now had order answer number = IsReused MayHave t now had order answer number
IsReusedBy MayHave Anew t now had order answer number = ⊥
IsReusedBy MayHave Denied t now had order answer number = (answer ≡ NoPrefix) × (number ≡ None)
IsReusedBy MayHave Unbound t now had order answer number = (answer ≡ NoBinding) × (number ≡ None)
IsReusedBy MayHave Omitted t now had order answer number = (answer ≡ Released) × (number ≡ None)

-- each IA_PD in its order, by its permit
abbrev pub AreReused : (List Receipt → Journal → Type 0) → ReuseTerms → ClientMessage → List Permit → ℕ → List Receipt
    → List IaPd → List IaAnswer → List (Option ℕ) → Type 0
AreReused MayHave t m permits now had [] [] [] = ⊤
AreReused MayHave t m permits now had (ia ∷ ias) (answer ∷ answers) (number ∷ numbers) =
    IsReusedBy MayHave (permit_at permits 0) t now had (order_for m ia) answer number
    × AreReused MayHave t m (drop 1 permits) now had ias answers numbers
AreReused MayHave t m permits now had _ _ _ = ⊥

-- The octets are those of the server's answer to the message, which isn't a SOLICIT: it tells each IA_PD what its
-- client has already, or its refusal. No line is written, and the number is that of the last line that it tells of.
pub record IsResent (MayHave : List Receipt → Journal → Type 0) (t : ReuseTerms) (own : List ℕ) (manner : ReplyPolicy)
    (m : ClientMessage) (permits : List Permit) (now : ℕ) (had : List Receipt) (octets : List ℕ)
    (line : Option ℕ) : Type 0 where
  pub answers : List IaAnswer
  pub numbers : List (Option ℕ)
  pub asks : m.kind ≢ Solicit
  pub told : AreReused MayHave t m permits now had m.ias answers numbers
  pub spelled : octets ≡ message_octets (answer_of m own manner answers)
  pub known : is_elsewhere m manner answers ≡ false
  pub last : line ≡ latest numbers
