-- What a person who runs a node is told, and when.
use Rattle.std.specs.Prelude.{◌==◌, ◌+◌, ℕ, min, Option, Some, None, Result, Ok, Err, if◌then◌else◌}
use Rattle.prefix_range.specs.Prefix.{Prefix}
use Rattle.binding_rules.specs.declared.message.Body.{Body}
use Rattle.binding_rules.specs.declared.message.Body.TheVariants.{Update}
use Rattle.binding_rules.specs.declared.taking.Outcome.TheVariants.{Drop}
use Rattle.order_book.specs.declared.order.Order.{Order}
use Rattle.order_book.specs.declared.order.Order.TheVariants.{Reclaim, Take}
use Rattle.order_book.specs.declared.reply.Reply.{Reply}
use Rattle.order_book.specs.declared.reply.Reply.TheVariants.{Taken}
use Rattle.order_book.specs.declared.error.BookError.TheVariants.{Full}
use Rattle.locked_book.specs.declared.receipt.Receipt.{Receipt}
use Rattle.locked_book.specs.declared.error.ServeError.{ServeError}
use Rattle.locked_book.specs.declared.error.ServeError.TheVariants.{Book}
use Rattle.client_service.specs.declared.no_reply_reason.NoReplyReason.TheVariants.{Refused}
use Rattle.node_threads.specs.declared.worker_outcome.WorkerOutcome.{WorkerOutcome}
use Rattle.node_threads.specs.declared.worker_outcome.WorkerOutcome.TheVariants.{Unanswered}
use Rattle.node_threads.specs.declared.notices.Notice.{Notice}
use Rattle.node_threads.specs.declared.notices.Notice.TheVariants.{JournalFull, PartnerSilent, SettingsDiffer}
use Rattle.node_threads.specs.declared.wire.Got.{Got}
use Rattle.node_threads.specs.declared.wire.Got.TheVariants.{Idle}

-- ---- that the journal is full

-- of a refusal
abbrev pub notice_in : ServeError → Option Notice
notice_in (Book Full) = Some JournalFull
notice_in _ = None

-- of a datagram that a worker heard
abbrev pub notice_of : WorkerOutcome → Option Notice
notice_of (Unanswered (Refused refusal)) = notice_in refusal
notice_of _ = None

-- ---- that the partner's settings differ

-- a talk reclaims a unit only where the partner refused its move
abbrev pub notice_at : Order → Option Notice
notice_at (Reclaim p) = Some SettingsDiffer
notice_at _ = None

-- of an order of the talk's, by what came of it
abbrev pub notice_by : Order → Result Receipt ServeError → Option Notice
notice_by order (Ok receipt) = notice_at order
notice_by order (Err (Book Full)) = Some JournalFull
notice_by order (Err refusal) = notice_at order

-- the prefix of an update that was taken and dropped
abbrev pub dropped_in : Body → Reply → Option Prefix
dropped_in (Update u) (Taken Drop) = Some u.prefix
dropped_in _ _ = None

abbrev pub dropped_by : Order → Result Receipt ServeError → Option Prefix
dropped_by (Take m) (Ok receipt) = dropped_in m.body receipt.reply
dropped_by _ _ = None

-- ---- that nothing came

-- of a read, behind so many pauses without octets: 5000 pauses are 10 s
abbrev pub notice_after : ℕ → Got → Option Notice
notice_after pauses Idle = if pauses + 1 == 5000 then Some PartnerSilent else None
notice_after pauses _ = None

-- how many there are then
abbrev pub pauses_after : ℕ → Got → ℕ
pauses_after pauses Idle = min (pauses + 1) 4294967295
pauses_after pauses _ = 0
