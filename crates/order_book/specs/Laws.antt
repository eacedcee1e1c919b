-- Laws of answers.
use Rattle.std.specs.Prelude.{◌≡◌, ℕ, ◌^◌, ◌≤◌}
use Rattle.journal_lines.specs.declared.line.Line.{Line}
use Rattle.journal_lines.specs.declared.line.Journal.{Journal}
use Rattle.order_book.specs.declared.order.Order.{Order}
use Rattle.order_book.specs.declared.reply.Reply.{Reply}
use Rattle.order_book.specs.declared.error.BookError.{BookError}
use Rattle.order_book.specs.Replayed.{state_of, IsLegal}
use Rattle.order_book.specs.Answer.{IsServed, IsAnswer, IsFirstRefusal}
use Rattle.server_settings.specs.Settings.{ServerSettings, AreFit, opening}

-- an order gets one line and one reply
abbrev pub OneAnswer : Type 0
OneAnswer = (j : Journal) (now : ℕ) (order : Order) (l m : Line) (x y : Reply) → IsLegal j
    → IsAnswer (state_of j) now order l x → IsAnswer (state_of j) now order m y → (l ≡ m) × (x ≡ y)

-- or has one first refusal
abbrev pub OneRefusal : Type 0
OneRefusal = (j : Journal) (now : ℕ) (order : Order) (e f : BookError) → IsLegal j
    → IsFirstRefusal (state_of j) now order e → IsFirstRefusal (state_of j) now order f → e ≡ f

-- and not both
abbrev pub NotBoth : Type 0
NotBoth = (j : Journal) (now : ℕ) (order : Order) (l : Line) (e : BookError) → IsLegal j
    → IsServed (state_of j) now order l → IsFirstRefusal (state_of j) now order e → ⊥

-- what a server begins with breaks no rule
abbrev pub OpeningIsLegal : Type 0
OpeningIsLegal = (s : ServerSettings) (now : ℕ) → AreFit s → now ≤ 2 ^ 48 → IsLegal (opening s now)
