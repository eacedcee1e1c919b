-- A world of one unit: the unit at each of the two servers, what each ever sent of it, and who was granted it when.
-- Moments are true time, in milliseconds; a server reads a clock within the skew of it.
use Rattle.std.specs.Prelude.{◌≡◌, ◌⊎◌, ℕ, ◌+◌, ◌*◌, ◌≤◌, ⊤, ◌&&◌, ◌==◌, nat_le, Bool, true, false}
use Rattle.std.specs.Prelude.{List, [], ◌∷◌, max, Option, Some, None, if◌then◌else◌}
use Rattle.binding_rules.specs.declared.role.Role.{Role}
use Rattle.binding_rules.specs.declared.role.Role.TheVariants.{Primary, Secondary}
use Rattle.binding_rules.specs.Role.{partner_of}
use Rattle.binding_rules.specs.declared.unit.Binding.{Binding}
use Rattle.binding_rules.specs.declared.unit.UnitStatus.TheVariants.{Free, FreeBackup, Active, Released}
use Rattle.binding_rules.specs.declared.unit.Unit.{Unit as UnitValue}
use Rattle.binding_rules.specs.declared.update.Status.TheVariants.{Active as ActiveDue, Expired as ExpiredDue}
use Rattle.binding_rules.specs.declared.update.Status.TheVariants.{Released as ReleasedDue, Backup as BackupDue}
use Rattle.binding_rules.specs.declared.update.Status.TheVariants.{Free as FreeDue}
use Rattle.binding_rules.specs.declared.update.Update.{Update}
use Rattle.binding_rules.specs.declared.update.BindReply.{BindReply}
use Rattle.binding_rules.specs.Unit.{status_of, fresh}
use Rattle.binding_rules.specs.Giving.{is_own}
use Rattle.binding_rules.specs.Table.{after_update}
use Rattle.binding_rules.specs.Reply.{after_reply}
use Rattle.book_rules.specs.UnitRules.{IsActiveFor, takeover}
use Rattle.book_rules.specs.MessageRules.{TellsUnit}
use Rattle.book_state.specs.Effects.{changed, expired, or_as_was, seized}

-- what doesn't change in a run
pub record UnitSetting : Type 0 where
  pub skew : ℕ  -- milliseconds
  pub transit : ℕ  -- milliseconds: a grant may start this much later at its client
  pub mclt : ℕ  -- the maximum client lead time, in seconds

-- a grant, or a release by the client that has the unit
pub data Entry : Type 0 where
  Gives : (side : Role) (holder : Binding) (moment valid : ℕ) → Entry
  GivesBack : (holder : Binding) (moment : ℕ) → Entry

-- what a contact says: the restart that it asks an answer to, and the one that it answers
pub record Contact : Type 0 where
  pub ask : ℕ
  pub answer : ℕ

pub record Server : Type 0 where
  pub unit : UnitValue
  pub updates : List Update  -- ever sent
  pub replies : List BindReply  -- ever sent
  pub contacts : List Contact  -- ever sent
  pub down : Option ℕ  -- the reading since which the partner is taken for down
  pub waiting : Bool  -- for the partner's answer to the last restart
  pub restart : ℕ  -- the number of the last restart
  pub asked : ℕ  -- the number that the partner asked last
  pub stopped : Bool

pub record UnitWorld : Type 0 where
  pub a : Server  -- the primary
  pub b : Server  -- the secondary
  pub now : ℕ
  pub log : List Entry  -- the newest first

abbrev pub first : Server
first =
    record {
      unit = fresh;
      updates = [];
      replies = [];
      contacts = [];
      down = None;
      waiting = false;
      restart = 0;
      asked = 0;
      stopped = false;
    }

abbrev pub start : UnitWorld
start = record { a = first; b = first; now = 0; log = [] }

abbrev pub server : Role → UnitWorld → Server
server Primary w = w.a
server Secondary w = w.b

abbrev pub with_server : Role → UnitWorld → Server → UnitWorld
with_server Primary w s = record w { a = s }
with_server Secondary w s = record w { b = s }

abbrev pub with_unit : Role → UnitWorld → UnitValue → UnitWorld
with_unit side w u = with_server side w (record (server side w) { unit = u })

-- x is one of the list
abbrev pub IsIn : {T : Type 0} → List T → T → Type 0
IsIn [] x = ⊥
IsIn (y ∷ ys) x = (y ≡ x) ⊎ IsIn ys x

-- one step of the pair, or time that passes
pub data UnitEvent : Type 0 where
  Grants : (side : Role) (reading valid out_end : ℕ) (holder : Binding) → UnitEvent
  Releases : (side : Role) (holder : Binding) → UnitEvent
  Expires : (side : Role) (reading : ℕ) → UnitEvent
  MovesToBackup : UnitEvent
  Reclaims : UnitEvent
  SendsUpdate : (side : Role) → Update → UnitEvent
  SendsReply : (side : Role) → BindReply → UnitEvent
  SendsContact : (side : Role) → Contact → UnitEvent
  TakesUpdate : (side : Role) (reading : ℕ) → Update → UnitEvent
  TakesReply : (side : Role) → BindReply → UnitEvent
  TakesContact : (side : Role) → Contact → UnitEvent
  LearnsTerm : (side : Role) → Contact → UnitEvent
  GoesDown : (side : Role) (reading : ℕ) → UnitEvent
  GoesUp : (side : Role) → UnitEvent
  Seizes : (side : Role) (reading : ℕ) → UnitEvent
  Stops : (side : Role) → UnitEvent
  Restarts : (side : Role) → UnitEvent
  Passes : ℕ → UnitEvent

-- ---- what may happen

-- the reading is within the skew of the moment
abbrev pub IsNear : UnitSetting → UnitWorld → ℕ → Type 0
IsNear s w reading = (reading ≤ w.now + s.skew) × (w.now ≤ reading + s.skew)

-- the lifetime reaches no further than the maximum client lead time past the end that the partner acknowledged
abbrev pub IsWithinLead : UnitSetting → (acked reading valid : ℕ) → Type 0
IsWithinLead s acked reading valid = reading + 1000 * valid ≤ max acked reading + 1000 * s.mclt

-- the unit is the server's to give, or is this client's already
abbrev pub IsGrantable : Role → UnitValue → Binding → Type 0
IsGrantable side u holder = (is_own side u.status ≡ true) ⊎ IsActiveFor u holder.client holder.iaid

-- the server takes its partner for down, or has the unit marked
abbrev pub IsAlone : Server → Type 0
IsAlone x = ((d : ℕ) × (x.down ≡ Some d)) ⊎ (x.unit.marked ≡ true)

-- a contact may always answer nothing, and answers a number only where the server isn't alone
abbrev pub MaySay : Server → Contact → Type 0
MaySay x c = (c.ask ≤ x.restart) × ((c.answer ≡ 0) ⊎ ((IsAlone x → ⊥) × (c.answer ≡ x.asked)))

-- while the partner is down, a unit outside the server's own pool is seized once no lease of it can last
abbrev pub MaySeize : UnitSetting → Role → Server → (reading d : ℕ) → Type 0
MaySeize s side x reading d =
    (x.down ≡ Some d) × (is_own side x.unit.status ≡ false) × (x.unit.own_end ≤ reading)
    × (takeover x.unit.told d s.mclt s.skew s.transit ≤ reading)

-- What may happen is what the rules of a journal allow, and more: the end that the partner is told is any number, and
-- a message comes late, twice, in any order, in any term, or never.
abbrev pub IsAllowed : UnitSetting → UnitWorld → UnitEvent → Type 0
IsAllowed s w (Grants side reading valid out_end holder) =
    IsNear s w reading × IsGrantable side (server side w).unit holder
    × IsWithinLead s (server side w).unit.acked reading valid
    × ((server side w).waiting ≡ false) × ((server side w).stopped ≡ false)
IsAllowed s w (Releases side holder) = IsActiveFor (server side w).unit holder.client holder.iaid
IsAllowed s w (Expires side reading) =
    IsNear s w reading × (status_of (server side w).unit.status ≡ ActiveDue) × ((server side w).unit.own_end ≤ reading)
IsAllowed s w MovesToBackup = w.a.unit.status ≡ Free
IsAllowed s w Reclaims = w.a.unit.status ≡ FreeBackup
IsAllowed s w (SendsUpdate side u) = TellsUnit (server side w).unit u
IsAllowed s w (SendsReply side r) = (server side w).unit.pending ≡ Some r
IsAllowed s w (SendsContact side c) = MaySay (server side w) c
IsAllowed s w (TakesUpdate side reading u) = IsNear s w reading × IsIn (server (partner_of side) w).updates u
IsAllowed s w (TakesReply side r) = IsIn (server (partner_of side) w).replies r
IsAllowed s w (TakesContact side c) = IsIn (server (partner_of side) w).contacts c
IsAllowed s w (LearnsTerm side c) = IsIn (server (partner_of side) w).contacts c
IsAllowed s w (GoesDown side reading) =
    IsNear s w reading × ((server side w).waiting ≡ false) × ((server side w).stopped ≡ false)
    × ((server (partner_of side) w).stopped ≡ true)
IsAllowed s w (GoesUp side) = ⊤
IsAllowed s w (Seizes side reading) = (d : ℕ) × IsNear s w reading × MaySeize s side (server side w) reading d
IsAllowed s w (Stops side) = ⊤
IsAllowed s w (Restarts side) = ⊤
IsAllowed s w (Passes n) = ⊤

-- ---- what it does

abbrev pub granted : UnitSetting → (reading valid out_end : ℕ) → Binding → UnitValue → UnitValue
granted s reading valid out_end holder u =
    record u {
      status = Active holder;
      mine = u.mine + 1;
      own_end = max u.own_end (reading + 1000 * valid + 2 * s.skew + s.transit);
      out_end = out_end;
      due = Some ActiveDue;
    }

-- a number of 0 asks nothing
abbrev pub asked_by : Contact → ℕ → ℕ
asked_by c asked = if c.ask == 0 then asked else c.ask

-- the waiting ends where the restart is answered
abbrev pub contacted : Contact → Server → Server
contacted c x =
    record x {
      asked = asked_by c x.asked;
      waiting = if nat_le 1 c.answer && (c.answer == x.restart) then false else x.waiting;
    }

abbrev pub next : UnitSetting → UnitWorld → UnitEvent → UnitWorld
next s w (Grants side reading valid out_end holder) =
    record (with_unit side w (granted s reading valid out_end holder (server side w).unit)) {
      log = Gives side holder w.now valid ∷ w.log;
    }
next s w (Releases side holder) =
    record (with_unit side w (changed (Released holder) ReleasedDue (server side w).unit)) {
      log = GivesBack holder w.now ∷ w.log;
    }
next s w (Expires side reading) =
    with_unit side w (changed (expired (server side w).unit.status) ExpiredDue (server side w).unit)
next s w MovesToBackup = with_unit Primary w (changed FreeBackup BackupDue w.a.unit)
next s w Reclaims = with_unit Primary w (changed w.a.unit.status FreeDue w.a.unit)
next s w (SendsUpdate side u) =
    with_server side w (record (server side w) { updates = u ∷ (server side w).updates })
next s w (SendsReply side r) =
    with_server side w (record (server side w) {
      unit = record (server side w).unit { pending = None };
      replies = r ∷ (server side w).replies;
    })
next s w (SendsContact side c) =
    with_server side w (record (server side w) { contacts = c ∷ (server side w).contacts })
next s w (TakesUpdate side reading u) =
    with_unit side w (after_update side (server side w).unit reading (server side w).waiting u)
next s w (TakesReply side r) =
    with_unit side w (or_as_was (server side w).unit (after_reply (server side w).unit r))
next s w (TakesContact side c) = with_server side w (contacted c (server side w))
next s w (LearnsTerm side c) =
    with_server side w (record (server side w) { asked = asked_by c (server side w).asked })
next s w (GoesDown side reading) = with_server side w (record (server side w) { down = Some reading })
next s w (GoesUp side) = with_server side w (record (server side w) { down = None })
next s w (Seizes side reading) = with_unit side w (seized side (server side w).unit)
next s w (Stops side) = with_server side w (record (server side w) { stopped = true })
next s w (Restarts side) =
    with_server side w (record (server side w) {
      waiting = true;
      restart = (server side w).restart + 1;
      stopped = false;
    })
next s w (Passes n) = record w { now = w.now + n }

-- each event may happen in the world that those before it left
abbrev pub MayHappen : UnitSetting → UnitWorld → List UnitEvent → Type 0
MayHappen s w [] = ⊤
MayHappen s w (e ∷ es) = IsAllowed s w e × MayHappen s (next s w e) es

abbrev pub world_after : UnitSetting → UnitWorld → List UnitEvent → UnitWorld
world_after s w [] = w
world_after s w (e ∷ es) = world_after s (next s w e) es
