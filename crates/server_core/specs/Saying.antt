-- What a server owes its partner: its frames are held back until the lines that they speak of are on the disk.
use Rattle.std.specs.Prelude.{◌≡◌, ⊤, ℕ, ◌-◌, Bool, false, List, [], ◌∷◌, ◌++◌, Option, Some, None, option_map, IfSome, Result, Ok, Err}
use Rattle.std.specs.List.{AllByRecursion}
use Rattle.binding_rules.specs.declared.role.Role.{Role}
use Rattle.journal_lines.specs.declared.event.Event.{Event}
use Rattle.journal_lines.specs.declared.event.Event.TheVariants.{Base, Send}
use Rattle.locked_book.specs.declared.receipt.Receipt.{Receipt}
use Rattle.failover_session.specs.declared.outbox.OutboundFrame.{OutboundFrame}
use Rattle.failover_session.specs.OutboundFrames.{FrameMeaning, Greets, Sends, meanings_of, meaning_of_receipt, greeting_kind}
use Rattle.failover_session.specs.Receipts.{last_taken}
use Rattle.failover_session.specs.Polling.{SessionModel}
use Rattle.failover_session.specs.Shortage.{SaysWhyShort}
use Rattle.failover_session.specs.TellingAll.{HasToldAll}
use Rattle.failover_session.specs.declared.link_input.LinkInput.{LinkInput}
use Rattle.failover_session.specs.declared.policy.SessionPolicy.{SessionPolicy}
use Rattle.failover_session.specs.declared.stage.SessionStage.{SessionStage}

-- One of these receipts says it by its own line; or it greets the partner by the message that was taken last of the
-- first of these.
abbrev pub IsBacked : List Receipt → FrameMeaning → Type 0
IsBacked receipts (Sends number message) =
    (r : Receipt) × (front : List Receipt) × (back : List Receipt) × (receipts ≡ front ++ r ∷ back)
    × (meaning_of_receipt r ≡ Some (Sends number message))
IsBacked receipts (Greets kind) =
    (role : Role) × (had : List Receipt) × (later : List Receipt) × (receipts ≡ had ++ later)
    × (kind ≡ greeting_kind role (last_taken had))

-- all that frames say
abbrev pub AreBacked : List Receipt → List OutboundFrame → Type 0
AreBacked receipts frames = AllByRecursion (IsBacked receipts) (meanings_of frames)

-- of a talk, if there is one
abbrev pub IsTalkBacked : List Receipt → Option SessionModel → Type 0
IsTalkBacked receipts talk = IfSome talk (λ t. AreBacked receipts t.handed)

-- the frames that a talk hands out, if there is one
abbrev pub handed_of : Option SessionModel → List OutboundFrame
handed_of None = []
handed_of (Some t) = t.handed

-- how far the two ends have come, if there is a talk
abbrev pub stage_of : Option SessionModel → Option SessionStage
stage_of talk = option_map (λ t. t.stage) talk

-- whether the partner has said over the connection that it told all (UPDDONE)
abbrev pub told_all_of : Option SessionModel → Bool
told_all_of None = false
told_all_of (Some t) = t.told_all

-- Where there is a talk, whether the partner has told all is known by what came, as `HasToldAll` says; behind an
-- error the connection is over.
abbrev pub KnowsToldAll : {T E : Type 0} → Result T E → LinkInput → Option SessionModel → Option SessionModel → Type 0
KnowsToldAll result came None new = told_all_of new ≡ false
KnowsToldAll (Ok it) came (Some t) new = HasToldAll came t.held t.told_all (told_all_of new)
KnowsToldAll (Err e) came (Some t) new = ⊤

-- a talk that says that the journal is short says why
abbrev pub SaysWhyTalkIsShort : SessionPolicy → List Receipt → Option SessionModel → Type 0
SaysWhyTalkIsShort policy has talk = IfSome talk (λ t. SaysWhyShort policy has t.stage)

-- of a line: the serial of the last message that was sent before it, if it tells one
abbrev pub before_by : Event → ℕ → ℕ
before_by (Base numbers) rest = numbers.serial
before_by (Send message) rest = message.serial - 1
before_by _ rest = rest

-- up to this serial these receipts don't say what was sent
abbrev pub sent_before : List Receipt → ℕ
sent_before [] = 0
sent_before (r ∷ rs) = before_by r.line.event (sent_before rs)
