-- What each server says of a unit, seen from one binding and in the plain numbers of Phases.
use Rattle.std.specs.Prelude.{◌≡◌, ◌⊎◌, [], Bool, List, None, Option, Some, false, true, ℕ}
use Rattle.binding_rules.specs.declared.unit.UnitStatus.TheVariants.{Active, Expired, Free, FreeBackup, Released}
use Rattle.binding_rules.specs.declared.update.Status.TheVariants.{Active as ActiveDue, Backup as BackupDue}
use Rattle.binding_rules.specs.declared.update.Status.TheVariants.{Expired as ExpiredDue, Free as FreeDue}
use Rattle.binding_rules.specs.declared.update.Status.TheVariants.{Released as ReleasedDue, Seized as SeizedDue}
use Rattle.binding_rules.specs.declared.update.BindReply.{BindReply}
use Rattle.binding_rules.specs.declared.unit.Binding.{Binding}
use Rattle.binding_rules.specs.declared.role.Role.TheVariants.{Primary, Secondary}
use Rattle.binding_rules.specs.declared.role.Role.{Role}
use Rattle.binding_rules.specs.declared.update.Status.{Status}
use Rattle.binding_rules.specs.declared.unit.UnitStatus.{UnitStatus}
use Rattle.binding_rules.specs.declared.update.Update.{Update}
use Rattle.binding_rules.specs.Reply.{is_accept}
use Rattle.binding_rules.specs.Role.{partner_of}
use Rattle.binding_rules.specs.Unit.{same_binding}
use Rattle.book_rules.specs.MessageRules.{client_of, due_update, iaid_of}
use Rattle.pair_world.specs.Acks.{Acks, Stale}
use Rattle.pair_world.specs.Phases.{Due, DueAtB, Phases}
use Rattle.pair_world.specs.UnitWorld.{IsIn, Server}
use Rattle.pair_world.specs.Marked.{Marked}

-- active for the binding, or for another
abbrev pub active_code : Bool → ℕ
active_code true = 2
active_code false = 3

-- what a unit is
abbrev pub code : Binding → UnitStatus → ℕ
code k Free = 0
code k FreeBackup = 1
code k (Active j) = active_code (same_binding j k)
code k (Expired j) = 4
code k (Released j) = 5

-- whose a unit is, or was: no client and association 0 where it is nobody's
abbrev pub given : Option (List ℕ) → List ℕ
given None = []
given (Some client) = client

abbrev pub bound : UnitStatus → Binding
bound status = record { client = given (client_of status); iaid = iaid_of status }

abbrev pub binding_of : Update → Binding
binding_of m = record { client = given m.client; iaid = m.iaid }

-- what an update says that the unit is
abbrev pub word_code_by : Status → Binding → Binding → ℕ
word_code_by ActiveDue k j = active_code (same_binding j k)
word_code_by ExpiredDue k j = 4
word_code_by ReleasedDue k j = 5
word_code_by BackupDue k j = 1
word_code_by FreeDue k j = 0
word_code_by SeizedDue k j = 0

abbrev pub word_code : Binding → Update → ℕ
word_code k u = word_code_by u.status k (binding_of u)

-- the change that is due
abbrev pub due_code : Option Status → ℕ
due_code None = 9
due_code (Some ActiveDue) = 2
due_code (Some ExpiredDue) = 4
due_code (Some ReleasedDue) = 5
due_code (Some BackupDue) = 1
due_code (Some FreeDue) = 0
due_code (Some SeizedDue) = 7

abbrev pub is_mark : Status → Bool
is_mark SeizedDue = true
is_mark _ = false

-- an update that the server sent, marks apart, or the one that it may send now
abbrev pub Says : Server → Update → Type 0
Says x u =
    (IsIn x.updates u × (is_mark u.status ≡ false))
    ⊎ ((x.unit.marked ≡ false) × (x.unit.due ≡ Some u.status) × (u ≡ due_update u.prefix x.unit u.status))

-- it sent a mark with this count, or may send one now
abbrev pub SaysMark : Server → ℕ → Type 0
SaysMark x m =
    ((u : Update) × IsIn x.updates u × (is_mark u.status ≡ true) × (u.mine ≡ m))
    ⊎ ((x.unit.marked ≡ true) × (x.unit.mine ≡ m))

-- a reply that accepts, which it sent or may send now
abbrev pub Accepts : Server → BindReply → Type 0
Accepts x r = (is_accept r.acknowledgement ≡ true) × (IsIn x.replies r ⊎ (x.unit.pending ≡ Some r))

-- the same by their numbers: what an update says, its end, and an acceptance
abbrev pub Word : Binding → Server → (c m n : ℕ) → Type 0
Word k x c m n = (u : Update) × Says x u × (word_code k u ≡ c) × (u.mine ≡ m) × (u.seen ≡ n)

abbrev pub SaysEnd : Server → (m e : ℕ) → Type 0
SaysEnd x m e = (u : Update) × Says x u × (u.status ≡ ActiveDue) × (u.mine ≡ m) × (u.end ≡ e)

abbrev pub Answer : Server → (p o : ℕ) → Type 0
Answer x p o = (r : BindReply) × Accepts x r × (r.mine ≡ p) × (r.of ≡ o)

abbrev pub InPhase : Binding → Server → Server → Type 0
InPhase k a b =
    Phases (code k a.unit.status) a.unit.mine a.unit.seen (due_code a.unit.due)
    (code k b.unit.status) b.unit.mine b.unit.seen (due_code b.unit.due)
    (Word k a) (Word k b) (Answer a) (Answer b)

abbrev pub HasAcks : Binding → Server → Server → Type 0
HasAcks k a b =
    Acks (code k a.unit.status) a.unit.mine a.unit.seen (due_code a.unit.due) a.unit.acked a.unit.told a.unit.out_end
    (code k b.unit.status) b.unit.mine b.unit.seen (due_code b.unit.due) b.unit.acked b.unit.told b.unit.out_end
    (Word k a) (Word k b) (SaysEnd a) (SaysEnd b) (Answer a) (Answer b)

-- while the unit is marked at neither
pub record InCalm (k : Binding) (a b : Server) : Type 0 where
  pub phases : InPhase k a b
  pub acks : HasAcks k a b
  pub stale : Stale a.unit.seen b.unit.seen (SaysMark a) (SaysMark b)

abbrev pub DueOf : Role → ℕ → ℕ → Type 0
DueOf Primary = Due
DueOf Secondary = DueAtB

-- what the other's unit is once it took the mark
abbrev pub left_as : Role → ℕ
left_as Primary = 0
left_as Secondary = 1

-- while the unit is marked at x, which is this side
abbrev pub InMark : Role → Binding → Server → Server → Type 0
InMark side k x y =
    Marked (left_as side) (DueOf side) (DueOf (partner_of side))
    (code k x.unit.status) x.unit.mine x.unit.seen (due_code x.unit.due) x.unit.acked x.unit.told
    (code k y.unit.status) y.unit.mine y.unit.seen (due_code y.unit.due) y.unit.acked y.unit.told y.unit.out_end
    (Word k x) (Word k y) (SaysEnd x) (SaysEnd y) (Answer x) (Answer y) (SaysMark x) (SaysMark y)
