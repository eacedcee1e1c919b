-- What a run of two books shows of one unit: the world of one unit in which it stands.
use Rattle.std.specs.Prelude.{◌∷◌, [], if◌then◌else◌, Bool, List, ℕ}
use Rattle.prefix_range.specs.Prefix.{Prefix}
use Rattle.binding_rules.specs.declared.update.BindReply.{BindReply}
use Rattle.binding_rules.specs.declared.unit.Binding.{Binding}
use Rattle.binding_rules.specs.declared.message.Body.{Body}
use Rattle.binding_rules.specs.declared.message.Body.TheVariants.{Contact as ContactBody, Reply as ReplyBody}
use Rattle.binding_rules.specs.declared.message.Body.TheVariants.{Update as UpdateBody}
use Rattle.binding_rules.specs.declared.message.PartnerMessage.{PartnerMessage}
use Rattle.binding_rules.specs.declared.role.Role.{Role}
use Rattle.binding_rules.specs.declared.update.Update.{Update}
use Rattle.binding_rules.specs.Role.{is_side}
use Rattle.journal_lines.specs.declared.event.Event.{Event}
use Rattle.journal_lines.specs.declared.event.Event.TheVariants.{Grant, Release, Send}
use Rattle.book_state.specs.Book.{BookState}
use Rattle.book_state.specs.Effects.{same_prefix}
use Rattle.server_settings.specs.Settings.{ServerSettings}
use Rattle.attribution.specs.Run.{Step}
use Rattle.pair_world.specs.UnitWorld.{Contact, Entry, Gives, GivesBack, Server, UnitSetting}

-- the binding of a lease
abbrev pub holder_of : List ℕ → ℕ → Binding
holder_of client iaid = record { client = client; iaid = iaid }

-- what a line adds to the log of a prefix
abbrev pub entry_of : Prefix → Role → ℕ → Event → List Entry → List Entry
entry_of p side moment (Grant g) log =
    if same_prefix p g.prefix then Gives side (holder_of g.client g.iaid) moment g.valid ∷ log else log
entry_of p side moment (Release client iaid q) log =
    if same_prefix p q then GivesBack (holder_of client iaid) moment ∷ log else log
entry_of p side moment _ log = log

-- the messages with what a line sends
abbrev pub sent_with : Event → List PartnerMessage → List PartnerMessage
sent_with (Send m) ms = m ∷ ms
sent_with _ ms = ms

-- the messages that speak of the prefix
abbrev pub updates_with : Prefix → Body → List Update → List Update
updates_with p (UpdateBody u) us = if same_prefix p u.prefix then u ∷ us else us
updates_with p _ us = us

abbrev pub replies_with : Prefix → Body → List BindReply → List BindReply
replies_with p (ReplyBody r) rs = if same_prefix p r.prefix then r ∷ rs else rs
replies_with p _ rs = rs

abbrev pub updates_of : Prefix → List PartnerMessage → List Update
updates_of p [] = []
updates_of p (m ∷ ms) = updates_with p m.body (updates_of p ms)

abbrev pub replies_of : Prefix → List PartnerMessage → List BindReply
replies_of p [] = []
replies_of p (m ∷ ms) = replies_with p m.body (replies_of p ms)

-- what contacts say
abbrev pub contacts_with : Body → List Contact → List Contact
contacts_with (ContactBody ask answer) cs = record { ask = ask; answer = answer } ∷ cs
contacts_with _ cs = cs

abbrev pub contacts_of : List PartnerMessage → List Contact
contacts_of [] = []
contacts_of (m ∷ ms) = contacts_with m.body (contacts_of ms)

-- a server, as a unit sees it
abbrev pub server_of : Prefix → BookState → List PartnerMessage → Bool → Server
server_of p b sent stopped =
    record {
      unit = b.units p;
      updates = updates_of p sent;
      replies = replies_of p sent;
      contacts = contacts_of sent;
      down = b.down;
      waiting = b.waiting;
      restart = b.restart;
      asked = b.asked;
      stopped = stopped;
    }

-- what a run grants of a prefix and what is given back, the newest first
abbrev pub log_of : Prefix → List Step → List Entry → List Entry
log_of p [] log = log
log_of p (s ∷ ss) log = log_of p ss (entry_of p s.side s.moment s.line.event log)

-- what a side sent, the newest first
abbrev pub messages : Role → List Step → List PartnerMessage → List PartnerMessage
messages side [] ms = ms
messages side (s ∷ ss) ms = messages side ss (if is_side side s.side then sent_with s.line.event ms else ms)

abbrev pub setting_of : ServerSettings → UnitSetting
setting_of s = record { skew = s.skew; transit = s.transit; mclt = s.mclt }
