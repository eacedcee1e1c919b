-- What a server does at a start, by what its folder led to, its settings and its clock.
use Rattle.std.specs.Prelude.{◌≡◌, ℕ, ◌+◌, ◌≤◌, ⊤, IsTrue}
use Rattle.journal_lines.specs.declared.event.Event.TheVariants.{Restart as RestartLine}
use Rattle.journal_lines.specs.declared.line.Line.{Line}
use Rattle.journal_lines.specs.declared.line.Journal.{Journal}
use Rattle.book_rules.specs.Rules.{IsStep}
use Rattle.server_settings.specs.Settings.{ServerSettings}
use Rattle.order_book.specs.declared.order.Order.TheVariants.{Restart}
use Rattle.order_book.specs.Replayed.{state_of, with_line}
use Rattle.order_book.specs.Answer.{reading_of, next_line, IsFirstRefusal}
use Rattle.order_book.specs.NextBook.{MayRoll}
use Rattle.volume_store.specs.declared.step.ResumeStep.{ResumeStep}
use Rattle.volume_store.specs.declared.step.ResumeStep.TheVariants.{BeginFirst, GoOn as GoOnWith, BeginNext}
use Rattle.volume_store.specs.declared.step.ResumeStep.TheVariants.{End as EndOf}
use Rattle.server_start.specs.declared.setting.FixedSetting.{FixedSetting}
use Rattle.server_start.specs.declared.error.StartError.{StartError}
use Rattle.server_start.specs.declared.error.StartError.TheVariants.{Settings, ClockBehind, NoVolumeFollows, Refused}
use Rattle.server_start.specs.declared.error.StartError.TheVariants.{Memory, NoTransit}
use Rattle.server_start.specs.declared.starting.StartAction.{StartAction}
use Rattle.server_start.specs.declared.starting.StartAction.TheVariants.{First, GoOn, End, Next}
use Rattle.server_start.specs.declared.setting.DifferingSettings.{DifferingSettings}
use Rattle.server_start.specs.Opening.{Opened, opened}
use Rattle.server_start.specs.Agreement.{names, NamesThose, Agrees}
use Rattle.server_start.specs.Clock.{IsClockBehind}

-- ---- the line `restart`

-- the line that says that a server begins again: its restarts are numbered on
abbrev pub restart_line : Journal → ℕ → Line
restart_line j now =
    next_line (state_of j) (reading_of (state_of j) now) (RestartLine ((state_of j).restart + 1))

-- the book with one line more, `restart`, which breaks no rule
abbrev pub HasRestarted : Journal → ℕ → Journal → Type 0
HasRestarted j now k = IsStep (state_of j) (restart_line j now) × (k ≡ with_line j (restart_line j now))

-- ---- what is asked of each book, in this order

-- the settings differ, and which from what
abbrev pub Disagrees : ServerSettings → Journal → DifferingSettings → Opened → Type 0
Disagrees s j d o = NamesThose s (opened j) d × ((x : FixedSetting) × IsTrue (names d x)) × (o ≡ opened j)

-- the settings agree, and the clock is too far behind the last line, whose reading this is
abbrev pub HasClockBehind : ServerSettings → Journal → (now last : ℕ) → Type 0
HasClockBehind s j now last = Agrees s j × (last ≡ (state_of j).reading) × IsClockBehind now last s.skew

-- the settings agree, and the clock isn't too far behind
abbrev pub MayStart : ServerSettings → Journal → (now : ℕ) → Type 0
MayStart s j now = Agrees s j × (IsClockBehind now (state_of j).reading s.skew → ⊥)

-- why a book isn't started with, before its volume is looked at
abbrev pub IsNotFit : ServerSettings → Journal → (now : ℕ) → StartError → Type 0
IsNotFit s j now (Settings d o) = Disagrees s j d o
IsNotFit s j now (ClockBehind n last) = (n ≡ now) × HasClockBehind s j now last
IsNotFit s j now Memory = ⊤
IsNotFit s j now _ = ⊥

-- A first volume is begun only by settings that have a transit, which the volumes have from then on; one that stands
-- is started with as it is.
abbrev pub MayBegin : ServerSettings → (now : ℕ) → ResumeStep → Type 0
MayBegin s now BeginFirst = 1 ≤ s.transit
MayBegin s now (GoOnWith j) = MayStart s j now
MayBegin s now (EndOf j) = MayStart s j now
MayBegin s now (BeginNext j) = MayStart s j now

-- why none is begun
abbrev pub LacksTransit : ServerSettings → StartError → Type 0
LacksTransit s e = (e ≡ NoTransit) × (s.transit ≡ 0)

-- why nothing may be begun, before anything is changed
abbrev pub IsNoBeginning : ServerSettings → (now : ℕ) → ResumeStep → StartError → Type 0
IsNoBeginning s now BeginFirst e = LacksTransit s e
IsNoBeginning s now (GoOnWith j) e = IsNotFit s j now e
IsNoBeginning s now (EndOf j) e = IsNotFit s j now e
IsNoBeginning s now (BeginNext j) e = IsNotFit s j now e

-- ---- the start

-- a book that goes on has one line more, `restart`
abbrev pub IsGoneOn : ServerSettings → Journal → (now : ℕ) → Journal → Type 0
IsGoneOn s j now k = MayStart s j now × HasRestarted j now k

-- a closed book, as it was: a next volume may begin behind it
abbrev pub IsFollowed : ServerSettings → Journal → (now : ℕ) → Journal → Type 0
IsFollowed s j now k = MayStart s j now × MayRoll j × (k ≡ j)

-- what is done
abbrev pub IsStart : ServerSettings → (now : ℕ) → ResumeStep → StartAction → Type 0
IsStart s now BeginFirst First = 1 ≤ s.transit
IsStart s now (GoOnWith j) (GoOn k) = IsGoneOn s j now k
IsStart s now (EndOf j) (End k) = IsFollowed s j now k
IsStart s now (BeginNext j) (Next k) = IsFollowed s j now k
IsStart s now step start = ⊥

-- why a book doesn't go on: behind the settings and the clock, its own first refusal of a restart
abbrev pub IsNotGoneOn : ServerSettings → Journal → (now : ℕ) → StartError → Type 0
IsNotGoneOn s j now (Refused e) = MayStart s j now × IsFirstRefusal (state_of j) now Restart e
IsNotGoneOn s j now e = IsNotFit s j now e

-- why a closed book isn't followed: behind the settings and the clock, that none may follow it
abbrev pub IsNotFollowed : ServerSettings → Journal → (now : ℕ) → StartError → Type 0
IsNotFollowed s j now NoVolumeFollows = MayStart s j now × (MayRoll j → ⊥)
IsNotFollowed s j now e = IsNotFit s j now e

-- Why nothing is done. A first volume is begun whatever the clock says.
abbrev pub IsNoStart : ServerSettings → (now : ℕ) → ResumeStep → StartError → Type 0
IsNoStart s now BeginFirst e = LacksTransit s e
IsNoStart s now (GoOnWith j) e = IsNotGoneOn s j now e
IsNoStart s now (EndOf j) e = IsNotFollowed s j now e
IsNoStart s now (BeginNext j) e = IsNotFollowed s j now e
