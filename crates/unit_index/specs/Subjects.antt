-- The unit that a line is about.
use Rattle.std.specs.Prelude.{◌≡◌, ⊤, false, Option, Some, None}
use Rattle.prefix_range.specs.Prefix.{Prefix}
use Rattle.binding_rules.specs.declared.message.Body.{Body}
use Rattle.binding_rules.specs.declared.message.Body.TheVariants.{Update, Reply, Contact}
use Rattle.journal_lines.specs.declared.event.Event.{Event}
use Rattle.journal_lines.specs.declared.event.Event.TheVariants.{Pool, Unit as UnitLine, Grant, Release, Expire}
use Rattle.journal_lines.specs.declared.event.Event.TheVariants.{Backup, Reclaim, Seize, Send, Take}
use Rattle.book_state.specs.Effects.{same_prefix}

-- to tell of a unit changes nothing, and a reply leaves its unit
abbrev pub subject_sent : Body → Option Prefix
subject_sent (Reply r) = Some r.prefix
subject_sent _ = None

abbrev pub subject_taken : Body → Option Prefix
subject_taken (Update m) = Some m.prefix
subject_taken (Reply r) = Some r.prefix
subject_taken (Contact ask answer) = None

-- an event changes no other unit
abbrev pub subject_of : Event → Option Prefix
subject_of (UnitLine k) = Some k.prefix
subject_of (Grant g) = Some g.prefix
subject_of (Release client iaid prefix) = Some prefix
subject_of (Expire prefix) = Some prefix
subject_of (Backup prefix) = Some prefix
subject_of (Reclaim prefix) = Some prefix
subject_of (Seize prefix) = Some prefix
subject_of (Send m) = subject_sent m.body
subject_of (Take m) = subject_taken m.body
subject_of _ = None

-- another unit
abbrev pub IsAway : Option Prefix → Prefix → Type 0
IsAway None q = ⊤
IsAway (Some p) q = same_prefix q p ≡ false

-- the event leaves the pools as they are
abbrev pub KeepsPools : Event → Type 0
KeepsPools (Pool prefix unit) = ⊥
KeepsPools _ = ⊤
