-- Pair safety: what every world of two books keeps, whatever is served, delivered, stopped and restarted.
use Rattle.std.specs.Prelude.{◌≡◌, ◌≢◌, ◌⊎◌, ℕ, ◌+◌, ◌*◌, ◌^◌, ◌≤◌, false, true, List, max, Some}
use Rattle.std.specs.Prelude.{length, Result, []}
use Rattle.order_book.specs.declared.reply.Reply.{Reply}
use Rattle.prefix_range.specs.Prefix.{Prefix, IsPrefix, HasAddress}
use Rattle.binding_rules.specs.declared.role.Role.{Role}
use Rattle.binding_rules.specs.declared.role.Role.TheVariants.{Primary, Secondary}
use Rattle.binding_rules.specs.Role.{partner_of}
use Rattle.binding_rules.specs.declared.message.Body.TheVariants.{Contact}
use Rattle.binding_rules.specs.declared.message.PartnerMessage.{PartnerMessage}
use Rattle.binding_rules.specs.declared.update.Status.TheVariants.{Active as ActiveDue}
use Rattle.binding_rules.specs.Unit.{status_of}
use Rattle.binding_rules.specs.Giving.{is_own}
use Rattle.journal_lines.specs.declared.event.Lease.{Lease}
use Rattle.book_state.specs.Book.{IsUnit, IsCalm}
use Rattle.book_rules.specs.NextHead.{AreLegal}
use Rattle.server_settings.specs.Settings.{ServerSettings, AreFit}
use Rattle.attribution.specs.Run.{lines_of, IsRun, KeepsSkew, StartInTime, IsValidAt, Holds}
use Rattle.pair_world.specs.declared.event.Event.{Event}
use Rattle.pair_world.specs.PairWorld.{PairWorld, journal, book, is_stopped, AreAlike, new_world, WasSent, Reaches}
use Rattle.pair_world.specs.PairWorld.{IsWorldStep, AreDone}
use Rattle.pair_world.specs.Holders.{AreHolders}
use Rattle.pair_world.specs.declared.error.WorldError.{WorldError}
use Rattle.pair_world.specs.Kept.{PairKept}
use Rattle.pair_world.specs.UnitInRun.{setting_of, log_of, server_of, messages}

-- settings by which the pair may open at a moment: each within its limits, and alike
pub record MayOpen (moment : ℕ) (s t : ServerSettings) : Type 0 where
  pub moment_fits : moment ≤ 2 ^ 48
  pub first_fits : AreFit s
  pub second_fits : AreFit t
  pub alike : AreAlike s t

-- a world that some list of events leads to, each done or refused
pub record Comes (s t : ServerSettings) (w : PairWorld) : Type 0 where
  pub moment : ℕ
  pub opens : MayOpen moment s t
  pub events : List Event
  pub reaches : Reaches (new_world moment s t) events w

-- what a step leads to, and what a run of steps does, are such worlds again
abbrev pub StepStays : Type 0
StepStays =
    (s t : ServerSettings) (w v : PairWorld) (e : Event) (answer : Result Reply WorldError) → Comes s t w
    → IsWorldStep w e answer v → Comes s t v

abbrev pub RunStays : Type 0
RunStays =
    (s t : ServerSettings) (w v : PairWorld) (events : List Event) → Comes s t w → AreDone w events v → Comes s t v

-- ---- a world is a run

-- the first volume of each side, which is all that it writes
abbrev pub first_volume : Role → ℕ
first_volume side = 1

-- The world's run is a run of the pair, its clocks keep the skew, and its journals are the lines of its sides.
pub record IsPairRun (s : ServerSettings) (w : PairWorld) : Type 0 where
  pub run : IsRun AreLegal first_volume w.run
  pub skew : KeepsSkew s.skew first_volume w.run
  pub lines : (side : Role) → (journal side w).lines ≡ lines_of side w.run

abbrev pub WorldIsRun : Type 0
WorldIsRun = (s t : ServerSettings) (w : PairWorld) → Comes s t w → IsPairRun s w

-- ---- one holder

-- No address is held by two clients at any moment, past or to come, whenever the grants start at their clients.
abbrev pub AddressSafe : Type 0
AddressSafe =
    (s t : ServerSettings) (w : PairWorld) → Comes s t w
    → (starts others : ℕ → ℕ) → StartInTime s.transit w.run starts → StartInTime s.transit w.run others
    → (address m : ℕ) (j k : List ℕ) → Holds w.run starts address j m → Holds w.run others address k m → j ≡ k

-- Nor by two identity associations of one client.
abbrev pub LeaseSafe : Type 0
LeaseSafe =
    (s t : ServerSettings) (w : PairWorld) → Comes s t w
    → (starts others : ℕ → ℕ) → StartInTime s.transit w.run starts → StartInTime s.transit w.run others
    → (i j : ℕ) (g h : Lease) (address m : ℕ) → IsValidAt w.run starts i g m → IsValidAt w.run others j h m
    → HasAddress g.prefix address → HasAddress h.prefix address → (g.client ≡ h.client) × (g.iaid ≡ h.iaid)

-- So at most one client has an address of a unit now.
abbrev pub OneHolderNow : Type 0
OneHolderNow =
    (s t : ServerSettings) (w : PairWorld) → Comes s t w → (p : Prefix) → IsPrefix p → IsUnit (book Primary w) p
    → (clients : List (List ℕ)) → AreHolders w p clients → length clients ≤ 1

-- ---- the invariant

-- At each unit the two books keep what is between them.
abbrev pub BooksKeep : Type 0
BooksKeep =
    (s t : ServerSettings) (w : PairWorld) → Comes s t w → (p : Prefix) → IsUnit (book Primary w) p
    → PairKept (setting_of s) w.moment (log_of p w.run [])
    (server_of p (book Primary w) (messages Primary w.run []) w.stopped_a)
    (server_of p (book Secondary w) (messages Secondary w.run []) w.stopped_b)

-- ---- while a partner is down

-- The server is stopped, or waits, and no contact that its partner sent so far answers its last restart.
abbrev pub StandsBack : PairWorld → Role → Type 0
StandsBack w side =
    (is_stopped side w ≡ true)
    ⊎ (((book side w).waiting ≡ true)
    × ((m : PartnerMessage) (ask answer : ℕ) → WasSent (journal (partner_of side) w).lines m
    → m.body ≡ Contact ask answer → answer ≢ (book side w).restart))

-- While a server takes its partner for down or has a marked unit, the partner grants nothing.
abbrev pub PartnerStandsBack : Type 0
PartnerStandsBack =
    (s t : ServerSettings) (w : PairWorld) → Comes s t w → (side : Role) → (IsCalm (book side w) → ⊥)
    → StandsBack w (partner_of side)

-- a unit that is unmarked at a server and outside its own pool
pub record IsTheirs (w : PairWorld) (side : Role) (p : Prefix) : Type 0 where
  pub unit : IsUnit (book side w) p
  pub unmarked : ((book side w).units p).marked ≡ false
  pub outside : is_own side ((book side w).units p).status ≡ false

-- Where such a unit is active at the partner, the end that the partner holds acknowledged was told here.
abbrev pub AckWasTold : Type 0
AckWasTold =
    (s t : ServerSettings) (w : PairWorld) → Comes s t w → (side : Role) (p : Prefix) → IsTheirs w side p
    → status_of ((book (partner_of side) w).units p).status ≡ ActiveDue
    → ((book (partner_of side) w).units p).acked ≤ ((book side w).units p).told

-- So while the partner is taken for down, its delegations of the unit that are valid now end in time.
abbrev pub EndsInTime : Type 0
EndsInTime =
    (s t : ServerSettings) (w : PairWorld) → Comes s t w → (side : Role) (p : Prefix) (d : ℕ) → IsTheirs w side p
    → (book side w).down ≡ Some d → (starts : ℕ → ℕ) → StartInTime s.transit w.run starts
    → (i : ℕ) (g : Lease) (v : IsValidAt w.run starts i g w.moment) → v.step.side ≡ partner_of side → g.prefix ≡ p
    → starts i + 1000 * g.valid ≤ max ((book side w).units p).told d + 1000 * s.mclt + s.skew + s.transit
