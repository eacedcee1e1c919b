-- With which book a server starts.
use Rattle.std.specs.Prelude.{◌≡◌, ◌⊎◌, ◌↔◌, IsTrue, ℕ, ◌≤◌, Bool, true, false, List, []}
use Rattle.std.specs.Prelude.{None}
use Rattle.journal_lines.specs.declared.line.Journal.{Journal}
use Rattle.server_settings.specs.Settings.{ServerSettings, opening}
use Rattle.order_book.specs.NextBook.{MayRoll, IsNextBook}
use Rattle.volume_store.specs.declared.step.ResumeStep.{ResumeStep}
use Rattle.volume_store.specs.declared.step.ResumeStep.TheVariants.{BeginFirst, GoOn as GoOnWith, BeginNext}
use Rattle.volume_store.specs.declared.step.ResumeStep.TheVariants.{End as EndOf}
use Rattle.server_start.specs.declared.starting.StartAction.{StartAction}
use Rattle.server_start.specs.declared.starting.StartAction.TheVariants.{First, GoOn, End, Next}
use Rattle.server_start.specs.Starting.{HasRestarted, MayStart}
use Rattle.locked_book.specs.declared.receipt.Receipt.{Receipt}
use Rattle.server_core.specs.ServerStates.{CoreState}
use Rattle.server_core.specs.Terms.{terms_of}
use Rattle.folder_start.specs.declared.pairing.Pairing.{Pairing}
use Rattle.folder_start.specs.declared.pairing.Pairing.TheVariants.{Alone, Paired}
use Rattle.folder_start.specs.Pairing.{GoesOn, StartGoesOn}

-- A book as it was where a server goes on; else with one line more at this reading, `restart`.
abbrev pub GoesOnIf : (goes_on : Bool) → (now : ℕ) → Journal → Journal → Type 0
GoesOnIf true now j k = k ≡ j
GoesOnIf false now j k = HasRestarted j now k

-- by whether it goes on with the book `of`
abbrev pub GoesOnBy : Pairing → (of : Journal) → (now : ℕ) → Journal → Journal → Type 0
GoesOnBy pairing of now j k = (goes_on : Bool) × (IsTrue goes_on ↔ GoesOn pairing of) × GoesOnIf goes_on now j k

-- a first book of a server that has a partner waits for that one's answer
abbrev pub FirstGoesOn : Pairing → (now : ℕ) → Journal → Journal → Type 0
FirstGoesOn Alone now j k = k ≡ j
FirstGoesOn Paired now j k = HasRestarted j now k

-- the book of the volume behind a closed one, which is begun at this reading
abbrev pub GoesOnBehind : ServerSettings → Pairing → (now : ℕ) → Journal → Journal → Type 0
GoesOnBehind s pairing now j k =
    MayStart s j now × MayRoll j
    × ((next : Journal) × IsNextBook j now next × GoesOnBy pairing j now next k)

-- The book with which a server of these settings starts, by what its folder's last files lead to and at this reading:
-- one that is opened by them, the last one, or the one that follows it. Its first line then is `restart`, unless the book
-- isn't calm, or the server is alone.
abbrev pub StartsBook : ServerSettings → Pairing → (now : ℕ) → ResumeStep → Journal → Type 0
StartsBook s pairing now BeginFirst k = (1 ≤ s.transit) × FirstGoesOn pairing now (opening s now) k
StartsBook s pairing now (GoOnWith j) k = MayStart s j now × GoesOnBy pairing j now j k
StartsBook s pairing now (EndOf j) k = GoesOnBehind s pairing now j k
StartsBook s pairing now (BeginNext j) k = GoesOnBehind s pairing now j k

-- a server of these settings that has begun, and holds nothing back
pub record IsIdle {P : Type 0} (s : ServerSettings) (renew_floor : ℕ) (r : CoreState P) : Type 0 where
  pub own : r.own ≡ s.duid
  pub terms : r.terms ≡ terms_of s renew_floor
  pub held : r.held ≡ []
  pub talk : r.talk ≡ None

-- the book that is begun with by what is done, before a line `restart` that comes behind
abbrev pub BeginsBook : ServerSettings → (now : ℕ) → StartAction → Journal → Type 0
BeginsBook s now First k = k ≡ opening s now
BeginsBook s now (GoOn j) k = k ≡ j
BeginsBook s now (End j) k = IsNextBook j now k
BeginsBook s now (Next j) k = IsNextBook j now k

-- the book of a server that began by what is done, and with its line `restart` behind that unless it goes on
abbrev pub IsBegun : ServerSettings → Pairing → (now : ℕ) → StartAction → Journal → Type 0
IsBegun s pairing now start k =
    (j : Journal) × (goes_on : Bool) × BeginsBook s now start j × (IsTrue goes_on ↔ StartGoesOn pairing start)
    × GoesOnIf goes_on now j k

-- a server has started
pub record HasBegun {P : Type 0} (s : ServerSettings) (renew_floor : ℕ) (pairing : Pairing) (now : ℕ)
    (step : ResumeStep) (r : CoreState P) : Type 0 where
  pub idle : IsIdle s renew_floor r
  pub book : StartsBook s pairing now step r.volume.served.journal
