-- Which receipts of older volumes are still needed, where the partner has taken all messages up to a serial.
use Rattle.std.specs.Prelude.{ℕ, Bool, true, false, nat_lt, ◌==◌, ◌||◌, List, [], ◌∷◌, filter, Option, Some, None}
use Rattle.binding_rules.specs.declared.taking.Outcome.TheVariants.{Drop}
use Rattle.journal_lines.specs.declared.event.Event.{Event}
use Rattle.journal_lines.specs.declared.event.Event.TheVariants.{Send, Take}
use Rattle.order_book.specs.declared.reply.Reply.{Reply}
use Rattle.order_book.specs.declared.reply.Reply.TheVariants.{Taken}
use Rattle.locked_book.specs.declared.receipt.Receipt.{Receipt}
use Rattle.failover_session.specs.Receipts.{last_taken}

-- ---- serials of the last messages: 0 where there is none

abbrev pub sent_by : ℕ → Event → ℕ
sent_by last (Send m) = m.serial
sent_by last _ = last

abbrev pub sent_after : ℕ → List Receipt → ℕ
sent_after last [] = last
sent_after last (r ∷ rs) = sent_after (sent_by last r.line.event) rs

abbrev pub last_sent : List Receipt → ℕ
last_sent receipts = sent_after 0 receipts

-- a message that was taken wasn't dropped
abbrev pub is_applied : Reply → Bool
is_applied (Taken Drop) = false
is_applied (Taken _) = true
is_applied _ = false

abbrev pub applied_if : Bool → ℕ → Event → ℕ
applied_if true last (Take m) = m.serial
applied_if heeded last _ = last

abbrev pub applied_by : ℕ → Receipt → ℕ
applied_by last r = applied_if (is_applied r.reply) last r.line.event

abbrev pub applied_after : ℕ → List Receipt → ℕ
applied_after last [] = last
applied_after last (r ∷ rs) = applied_after (applied_by last r) rs

abbrev pub last_applied : List Receipt → ℕ
last_applied receipts = applied_after 0 receipts

-- ---- what is needed

-- it sends a message that the partner lacks, or the last one; or it takes the last one, or the last that was heeded
abbrev pub is_needed_by : (taken sent came heeded : ℕ) → Event → Bool
is_needed_by taken sent came heeded (Send m) = nat_lt taken m.serial || (m.serial == sent)
is_needed_by taken sent came heeded (Take m) = (m.serial == came) || (m.serial == heeded)
is_needed_by taken sent came heeded _ = false

abbrev pub is_needed : ℕ → List Receipt → Receipt → Bool
is_needed taken older r =
    is_needed_by taken (last_sent older) (last_taken older) (last_applied older) r.line.event

abbrev pub needed : ℕ → List Receipt → List Receipt
needed taken older = filter (is_needed taken older) older

-- ---- the first message that receipts send

abbrev pub sent_first : Event → Option ℕ → Option ℕ
sent_first (Send m) behind = Some m.serial
sent_first _ behind = behind

abbrev pub first_sent : List Receipt → Option ℕ
first_sent [] = None
first_sent (r ∷ rs) = sent_first r.line.event (first_sent rs)
