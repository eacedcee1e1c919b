-- Whether a server has a partner, by its settings and by its lines; and whether it goes on without the line `restart`.
use Rattle.std.specs.Prelude.{◌≡◌, ◌≢◌, ◌⊎◌, ⊤, IsTrue, Bool, true, false, not, ◌&&◌, ◌||◌, nat_lt, is_none, None, List}
use Rattle.std.specs.List.{list_any}
use Rattle.journal_lines.specs.declared.event.Event.{Event}
use Rattle.journal_lines.specs.declared.event.Event.TheVariants.{Backup, Base, Carry, Grant, Send, Take, Unit}
use Rattle.journal_lines.specs.declared.line.Line.{Line}
use Rattle.journal_lines.specs.declared.line.Journal.{Journal}
use Rattle.prefix_range.specs.Prefix.{Prefix}
use Rattle.unit_index.specs.Queries.{HasMark}
use Rattle.order_book.specs.Replayed.{state_of}
use Rattle.volume_store.specs.declared.step.ResumeStep.{ResumeStep}
use Rattle.volume_store.specs.declared.step.ResumeStep.TheVariants.{BeginFirst, GoOn as GoOnWith, BeginNext}
use Rattle.volume_store.specs.declared.step.ResumeStep.TheVariants.{End as EndOf}
use Rattle.server_start.specs.declared.starting.StartAction.{StartAction}
use Rattle.server_start.specs.declared.starting.StartAction.TheVariants.{First, GoOn, End, Next}
use Rattle.folder_start.specs.declared.pairing.Pairing.{Pairing}
use Rattle.folder_start.specs.declared.pairing.Pairing.TheVariants.{Alone, Paired}

-- a line shows that its server has had a partner: it sends or takes a message, or an earlier volume did, or waits for an
-- answer
abbrev pub shows_partner : Event → Bool
shows_partner (Send m) = true
shows_partner (Take m) = true
shows_partner (Base numbers) = nat_lt 0 numbers.serial || numbers.waiting
shows_partner _ = false

abbrev pub show_partner : List Line → Bool
show_partner lines = list_any (λ (l : Line). shows_partner l.event) lines

-- no line of a journal does, and its partner isn't taken for down
abbrev pub shows_no_partner : Journal → Bool
shows_no_partner j = is_none (state_of j).down && not (show_partner j.lines)

-- A server is alone: its settings say that it has no partner, and its lines show none. So nobody can have taken it for
-- down meanwhile.
abbrev pub is_alone : Pairing → Journal → Bool
is_alone Alone j = shows_no_partner j
is_alone Paired j = false

-- A server is a survivor, its book isn't calm: it takes its partner for down, or a unit is marked. So that one is stopped,
-- or waits for an answer.
abbrev pub IsSurvivor : Journal → Type 0
IsSurvivor j = ((state_of j).down ≢ None) ⊎ ((p : Prefix) × HasMark (state_of j) 0 p)

-- A server goes on with a book as it is, without the line `restart`: a survivor, or one that is alone.
abbrev pub GoesOn : Pairing → Journal → Type 0
GoesOn pairing j = IsSurvivor j ⊎ IsTrue (is_alone pairing j)

-- with the open book that its folder leads to
abbrev pub StepGoesOn : Pairing → ResumeStep → Type 0
StepGoesOn pairing (GoOnWith j) = GoesOn pairing j
StepGoesOn pairing _ = ⊥

-- With what it begins no line `restart` follows: behind a closed volume where it goes on, behind a first one where its
-- settings name no partner. A book that goes on has had its line.
abbrev pub StartGoesOn : Pairing → StartAction → Type 0
StartGoesOn pairing First = pairing ≡ Alone
StartGoesOn pairing (GoOn j) = ⊤
StartGoesOn pairing (End j) = GoesOn pairing j
StartGoesOn pairing (Next j) = GoesOn pairing j

-- ---- a server that nobody can answer

-- a book that waits for its partner's answer is gone on with by a server that has one
abbrev pub CanBeAnswered : Pairing → Journal → Type 0
CanBeAnswered Alone j = (state_of j).waiting ≡ false
CanBeAnswered Paired j = ⊤

abbrev pub StepCanBeAnswered : Pairing → ResumeStep → Type 0
StepCanBeAnswered pairing BeginFirst = ⊤
StepCanBeAnswered pairing (GoOnWith j) = CanBeAnswered pairing j
StepCanBeAnswered pairing (EndOf j) = CanBeAnswered pairing j
StepCanBeAnswered pairing (BeginNext j) = CanBeAnswered pairing j

-- a line shows that there may be leases: of its own volume, of one before, or of a partner that was given units or talked
-- to
abbrev pub shows_lease : Event → Bool
shows_lease (Grant lease) = true
shows_lease (Carry carried) = true
shows_lease (Unit kept) = true
shows_lease (Backup p) = true
shows_lease (Send m) = true
shows_lease (Take m) = true
shows_lease _ = false

abbrev pub show_lease : List Line → Bool
show_lease lines = list_any (λ (l : Line). shows_lease l.event) lines
