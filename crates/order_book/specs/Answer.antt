-- What a book answers to an order: the line that it appends and the reply, or the first refusal that applies.
use Rattle.std.specs.Prelude.{◌≡◌, ◌⊎◌, ℕ, ◌+◌, ◌-◌, ◌^◌, ◌<◌, ◌≤◌, ⊤, true, max}
use Rattle.prefix_range.specs.Prefix.{Prefix}
use Rattle.journal_lines.specs.declared.event.Event.{Event}
use Rattle.journal_lines.specs.declared.event.Event.TheVariants.{Grant, Release as ReleaseLine, Send, Take as TakeLine}
use Rattle.journal_lines.specs.declared.line.Line.{Line}
use Rattle.book_state.specs.Book.{BookState}
use Rattle.book_rules.specs.Rules.{IsStep, IsLeastBroken}
use Rattle.book_rules.specs.Outcomes.{outcome}
use Rattle.order_book.specs.declared.order.Order.{Order}
use Rattle.order_book.specs.declared.order.Order.TheVariants.{Request, Renew, Release, Close}
use Rattle.order_book.specs.declared.reply.Reply.{Reply}
use Rattle.order_book.specs.declared.reply.Reply.TheVariants.{Granted, Released, Sent, Taken, Done}
use Rattle.order_book.specs.declared.error.BookError.{BookError}
use Rattle.order_book.specs.declared.error.BookError.TheVariants.{NotServing, Full, NoBinding, NoPrefix, Rule, Memory}
use Rattle.unit_index.specs.Units.{IsUsable}
use Rattle.order_book.specs.Bindings.{IsHinted, IsBound}
use Rattle.order_book.specs.Named.{IsNamed}

-- a line's reading is the clock's, or that of the line before where the clock fell behind it
abbrev pub reading_of : BookState → ℕ → ℕ
reading_of b now = max now b.reading

-- the next line, of an event at a reading
abbrev pub next_line : BookState → ℕ → Event → Line
next_line b now e = record { number = b.count + 1; reading = now; event = e }

-- ---- refusals

-- a client asks for a lease
abbrev pub AsksLease : Order → Type 0
AsksLease (Request a) = ⊤
AsksLease (Renew a) = ⊤
AsksLease _ = ⊥

abbrev pub IsRequest : Order → Type 0
IsRequest (Request a) = ⊤
IsRequest _ = ⊥

abbrev pub IsClose : Order → Type 0
IsClose Close = ⊤
IsClose _ = ⊥

-- the client has nothing that it asks about
abbrev pub LacksBinding : BookState → Order → Type 0
LacksBinding b (Renew a) = (p : Prefix) → IsBound b a p → ⊥
LacksBinding b (Release a) = (p : Prefix) → IsHinted b a p → ⊥
LacksBinding b _ = ⊥

-- there is nothing to give to a client that has nothing
abbrev pub LacksPrefix : BookState → Order → Type 0
LacksPrefix b (Request a) = ((p : Prefix) → IsBound b a p → ⊥) × ((p : Prefix) → IsUsable b p → ⊥)
LacksPrefix b _ = ⊥

-- why no event is named
abbrev pub IsLacking : BookState → Order → BookError → Type 0
IsLacking b order NoBinding = LacksBinding b order
IsLacking b order NoPrefix = LacksPrefix b order
IsLacking b order _ = ⊥

-- the line breaks this rule first
abbrev pub BreaksFirst : BookState → Line → BookError → Type 0
BreaksFirst b l (Rule line rule) = (line ≡ l.number) × IsLeastBroken b l rule
BreaksFirst b l _ = ⊥

-- the refusal is called for, whether or not another comes before it
abbrev pub Applies : BookState → ℕ → Order → BookError → Type 0
Applies b now order NotServing = (b.closed ≡ true) ⊎ (AsksLease order × (b.waiting ≡ true))
Applies b now order Full = (2 ^ 20 - 1 ≤ b.count) × (IsClose order → ⊥)
Applies b now order NoBinding = IsLacking b order NoBinding
Applies b now order NoPrefix = IsLacking b order NoPrefix
Applies b now order (Rule line rule) =
    (e : Event) × IsNamed b (reading_of b now) order e
    × BreaksFirst b (next_line b (reading_of b now) e) (Rule line rule)
Applies b now order Memory = ⊥

-- the order in which refusals are looked for
abbrev pub rank : BookError → ℕ
rank NotServing = 1
rank Full = 2
rank NoBinding = 3
rank NoPrefix = 4
rank (Rule line rule) = 5
rank Memory = 6

-- the order is looked at further
pub record MayServe (b : BookState) (now : ℕ) (order : Order) : Type 0 where
  pub serves : Applies b now order NotServing → ⊥
  pub room : Applies b now order Full → ⊥

-- it applies, and none that is looked for before it
pub record IsFirstRefusal (b : BookState) (now : ℕ) (order : Order) (e : BookError) : Type 0 where
  pub applies : Applies b now order e
  pub first : (x : BookError) → rank x < rank e → Applies b now order x → ⊥

-- ---- lines and replies

-- what is told of an event at a reading
abbrev pub reply_to : BookState → ℕ → Event → Reply
reply_to b now (Grant g) = Granted g.prefix g.valid
reply_to b now (ReleaseLine client iaid prefix) = Released
reply_to b now (Send m) = Sent m.serial m.body
reply_to b now (TakeLine m) = Taken (outcome b now m)
reply_to b now _ = Done

-- the line is the one that the order names, and it breaks no rule
pub record IsServed (b : BookState) (now : ℕ) (order : Order) (l : Line) : Type 0 where
  pub may : MayServe b now order
  pub number : l.number ≡ b.count + 1
  pub reading : l.reading ≡ reading_of b now
  pub named : IsNamed b l.reading order l.event
  pub legal : IsStep b l

pub record IsAnswer (b : BookState) (now : ℕ) (order : Order) (l : Line) (reply : Reply) : Type 0 where
  pub line : IsServed b now order l
  pub told : reply ≡ reply_to b l.reading l.event

-- why an order is refused: want of memory is told only where the order would else be answered
abbrev pub IsRefusal : BookState → ℕ → Order → BookError → Type 0
IsRefusal b now order Memory = (l : Line) × IsServed b now order l
IsRefusal b now order e = IsFirstRefusal b now order e
