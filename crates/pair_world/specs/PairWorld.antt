-- A pair of servers in true time: what happens to them, and what comes of it. Moments are true time, in milliseconds.
use Rattle.std.specs.Prelude.{◌≡◌, ℕ, ◌+◌, ◌-◌, ◌^◌, ◌<◌, ◌≤◌, ⊤, Bool, true, false, List, [], ◌∷◌, ◌++◌, slice_get}
use Rattle.std.specs.Prelude.{Option, Some, None, Result, Ok, Err, map}
use Rattle.binding_rules.specs.declared.role.Role.{Role}
use Rattle.binding_rules.specs.declared.role.Role.TheVariants.{Primary, Secondary}
use Rattle.binding_rules.specs.Role.{partner_of}
use Rattle.binding_rules.specs.declared.message.PartnerMessage.{PartnerMessage}
use Rattle.binding_rules.specs.declared.message.ServerState.TheVariants.{Down}
use Rattle.journal_lines.specs.declared.event.Event.{Event as LineEvent}
use Rattle.journal_lines.specs.declared.event.Event.TheVariants.{Send}
use Rattle.journal_lines.specs.declared.line.Line.{Line}
use Rattle.journal_lines.specs.declared.line.Journal.{Journal}
use Rattle.book_state.specs.Book.{BookState}
use Rattle.order_book.specs.declared.order.Order.{Order}
use Rattle.order_book.specs.declared.order.Order.TheVariants.{Take, State, Restart as RestartOrder}
use Rattle.order_book.specs.declared.reply.Reply.{Reply}
use Rattle.order_book.specs.declared.reply.Reply.TheVariants.{Done}
use Rattle.order_book.specs.Replayed.{state_of, with_line}
use Rattle.server_settings.specs.Settings.{ServerSettings, opening}
use Rattle.order_book.specs.Answer.{IsAnswer, IsServed, IsFirstRefusal}
use Rattle.attribution.specs.Run.{Step}
use Rattle.pair_world.specs.declared.event.Event.{Event}
use Rattle.pair_world.specs.declared.event.Event.TheVariants.{Serve, Deliver, Stop, Restart, Pass}
use Rattle.pair_world.specs.declared.error.WorldError.{WorldError}
use Rattle.pair_world.specs.declared.error.WorldError.TheVariants.{ClockOff, Stopped, Running, NoMessage, PartnerRuns}
use Rattle.pair_world.specs.declared.error.WorldError.TheVariants.{Book as OfBook, Memory}

pub record PairWorld : Type 0 where
  pub moment : ℕ
  pub skew : ℕ  -- milliseconds: of the pair's settings
  pub transit : ℕ  -- milliseconds: of the pair's settings
  pub run : List Step  -- the oldest first
  pub a : Journal  -- the primary's
  pub b : Journal  -- the secondary's
  pub stopped_a : Bool
  pub stopped_b : Bool

abbrev pub journal : Role → PairWorld → Journal
journal Primary w = w.a
journal Secondary w = w.b

-- the book that a server's journal leads to
abbrev pub book : Role → PairWorld → BookState
book side w = state_of (journal side w)

abbrev pub is_stopped : Role → PairWorld → Bool
is_stopped Primary w = w.stopped_a
is_stopped Secondary w = w.stopped_b

-- ---- the start

-- the first settings are the primary's, the second the secondary's, and what the pair shares agrees
pub record AreAlike (s t : ServerSettings) : Type 0 where
  pub first : s.role ≡ Primary
  pub second : t.role ≡ Secondary
  pub skew : t.skew ≡ s.skew
  pub mclt : t.mclt ≡ s.mclt
  pub life : t.life ≡ s.life
  pub transit : t.transit ≡ s.transit
  pub pools : t.pools ≡ s.pools

abbrev pub steps_of : Role → (moment : ℕ) → List Line → List Step
steps_of side moment ls = map (λ l. record { side = side; moment = moment; line = l }) ls

-- both servers open at the first moment, and run
abbrev pub new_world : (moment : ℕ) → ServerSettings → ServerSettings → PairWorld
new_world moment s t =
    record {
      moment = moment;
      skew = s.skew;
      transit = s.transit;
      run = steps_of Primary moment (opening s moment).lines ++ steps_of Secondary moment (opening t moment).lines;
      a = opening s moment;
      b = opening t moment;
      stopped_a = false;
      stopped_b = false;
    }

-- ---- refusals

-- what an event sends
abbrev pub message_in : LineEvent → Option PartnerMessage
message_in (Send m) = Some m
message_in _ = None

abbrev pub with_sent : Option PartnerMessage → List PartnerMessage → List PartnerMessage
with_sent None ms = ms
with_sent (Some m) ms = m ∷ ms

-- what lines ever sent, the oldest first
abbrev pub messages_of : List Line → List PartnerMessage
messages_of [] = []
messages_of (l ∷ ls) = with_sent (message_in l.event) (messages_of ls)

-- the message of this number among all that lines sent, counted from 1
abbrev pub IsNumbered : List Line → ℕ → PartnerMessage → Type 0
IsNumbered ls n m = (1 ≤ n) × (slice_get (messages_of ls) (n - 1) ≡ Some m)

abbrev pub WasSent : List Line → PartnerMessage → Type 0
WasSent ls m = (n : ℕ) × IsNumbered ls n m

-- what is taken was sent
abbrev pub IsFedBy : List Line → Order → Type 0
IsFedBy ls (Take m) = WasSent ls m
IsFedBy ls _ = ⊤

-- a server is taken for down only while it is stopped
abbrev pub IsDownAllowed : (stopped : Bool) → Order → Type 0
IsDownAllowed stopped (State Down) = stopped ≡ true
IsDownAllowed stopped _ = ⊤

-- the clock is within the pair's skew of the moment
abbrev pub IsNear : PairWorld → ℕ → Type 0
IsNear w clock = (clock ≤ w.moment + w.skew) × (w.moment ≤ clock + w.skew)

-- a refusal applies, whether or not another comes before it
abbrev pub Fails : PairWorld → Event → WorldError → Type 0
Fails w (Serve side clock order) ClockOff = IsNear w clock → ⊥
Fails w (Deliver side sent clock) ClockOff = IsNear w clock → ⊥
Fails w (Restart side clock) ClockOff = IsNear w clock → ⊥
Fails w (Pass ms) ClockOff = 2 ^ 48 < w.moment + ms
Fails w (Serve side clock order) Stopped = is_stopped side w ≡ true
Fails w (Deliver side sent clock) Stopped = is_stopped side w ≡ true
Fails w (Stop side) Stopped = is_stopped side w ≡ true
Fails w (Restart side clock) Running = is_stopped side w ≡ false
Fails w (Serve side clock order) NoMessage = IsFedBy (journal (partner_of side) w).lines order → ⊥
Fails w (Deliver side sent clock) NoMessage =
    (m : PartnerMessage) → IsNumbered (journal (partner_of side) w).lines sent m → ⊥
Fails w (Serve side clock order) PartnerRuns = IsDownAllowed (is_stopped (partner_of side) w) order → ⊥
Fails w (Serve side clock order) (OfBook e) = IsFirstRefusal (book side w) clock order e
Fails w (Deliver side sent clock) (OfBook e) =
    (m : PartnerMessage) × IsNumbered (journal (partner_of side) w).lines sent m
    × IsFirstRefusal (book side w) clock (Take m) e
Fails w (Restart side clock) (OfBook e) = IsFirstRefusal (book side w) clock RestartOrder e
Fails w _ _ = ⊥

-- what the server's book makes of an order that it doesn't do; memory lacks only for what it would do
abbrev pub IsBookRefusal : BookState → ℕ → Order → WorldError → Type 0
IsBookRefusal b clock order (OfBook e) = IsFirstRefusal b clock order e
IsBookRefusal b clock order Memory = (l : Line) × IsServed b clock order l
IsBookRefusal b clock order _ = ⊥

-- the order in which refusals are looked for
abbrev pub rank : WorldError → ℕ
rank ClockOff = 1
rank Stopped = 2
rank Running = 3
rank NoMessage = 4
rank PartnerRuns = 5
rank (OfBook e) = 6
rank Memory = 7

-- it applies, and none that is looked for before it
pub record IsFirstFailure (w : PairWorld) (e : Event) (error : WorldError) : Type 0 where
  pub fails : Fails w e error
  pub first : (x : WorldError) → rank x < rank error → Fails w e x → ⊥

-- ---- what happens

-- one line more in a server's journal, and in the run
abbrev pub written : Role → PairWorld → Line → PairWorld
written Primary w l =
    record w { run = w.run ++ record { side = Primary; moment = w.moment; line = l } ∷ []; a = with_line w.a l }
written Secondary w l =
    record w { run = w.run ++ record { side = Secondary; moment = w.moment; line = l } ∷ []; b = with_line w.b l }

abbrev pub with_stop : Role → Bool → PairWorld → PairWorld
with_stop Primary t w = record w { stopped_a = t }
with_stop Secondary t w = record w { stopped_b = t }

-- the server answers the order by a line and a reply
abbrev pub ServerAnswers : PairWorld → Role → ℕ → Order → Line → Reply → Type 0
ServerAnswers w side clock order l reply = IsNear w clock × IsAnswer (book side w) clock order l reply

-- what an event does where nothing refuses it
abbrev pub IsDone : PairWorld → Event → Reply → PairWorld → Type 0
IsDone w (Serve side clock order) reply v =
    (is_stopped side w ≡ false) × IsFedBy (journal (partner_of side) w).lines order
    × IsDownAllowed (is_stopped (partner_of side) w) order
    × ((l : Line) × ServerAnswers w side clock order l reply × (v ≡ written side w l))
IsDone w (Deliver side sent clock) reply v =
    (is_stopped side w ≡ false)
    × ((m : PartnerMessage) × (l : Line) × IsNumbered (journal (partner_of side) w).lines sent m
    × ServerAnswers w side clock (Take m) l reply × (v ≡ written side w l))
IsDone w (Stop side) reply v = (is_stopped side w ≡ false) × (reply ≡ Done) × (v ≡ with_stop side true w)
IsDone w (Restart side clock) reply v =
    (is_stopped side w ≡ true)
    × ((l : Line) × ServerAnswers w side clock RestartOrder l reply × (v ≡ with_stop side false (written side w l)))
IsDone w (Pass ms) reply v =
    (w.moment + ms ≤ 2 ^ 48) × (reply ≡ Done) × (v ≡ record w { moment = w.moment + ms })

-- why an event is refused: for want of memory only where it would be done
abbrev pub IsRefused : PairWorld → Event → WorldError → Type 0
IsRefused w e Memory = (reply : Reply) × (v : PairWorld) × IsDone w e reply v
IsRefused w e error = IsFirstFailure w e error

-- One step: what is refused changes nothing.
abbrev pub IsWorldStep : PairWorld → Event → Result Reply WorldError → PairWorld → Type 0
IsWorldStep w e (Ok reply) v = IsDone w e reply v
IsWorldStep w e (Err error) v = IsRefused w e error × (v ≡ w)

-- the worlds after a list of events, each done or refused
abbrev pub Reaches : PairWorld → List Event → PairWorld → Type 0
Reaches w [] v = v ≡ w
Reaches w (e ∷ es) v = (answer : Result Reply WorldError) × (u : PairWorld) × IsWorldStep w e answer u × Reaches u es v

-- all of the events are done, one behind the other
abbrev pub AreDone : PairWorld → List Event → PairWorld → Type 0
AreDone w [] v = v ≡ w
AreDone w (e ∷ es) v = (reply : Reply) × (u : PairWorld) × IsDone w e reply u × AreDone u es v

-- the events before the first that is refused are done, and nothing else
pub record StopsAt (w : PairWorld) (events : List Event) (error : WorldError) (v : PairWorld) : Type 0 where
  pub before : List Event
  pub event : Event
  pub behind : List Event
  pub are : events ≡ before ++ event ∷ behind
  pub done : AreDone w before v
  pub refused : IsRefused v event error
