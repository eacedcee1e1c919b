-- How what files answer to a question of a moment is written.
use Rattle.std.specs.Prelude.{◌≡◌, ℕ, Bool, false, List, [], ◌∷◌, ◌++◌, ◌==◌, Option, Some, None, nat_lt}
use Rattle.std.specs.Prelude.{if◌then◌else◌, codes}
use Rattle.std.specs.declared.path.buf.PathBuf.{PathBuf}
use Rattle.attribution_desk.specs.Searching.{TellsAnswer, answer_text, status_of, note_of}
use Rattle.holder_answers.specs.HolderAnswers.{search_of}
use Rattle.archive_desk.specs.declared.holding.HolderReply.{HolderReply}
use Rattle.archive_desk.specs.declared.holding.HolderReply.TheVariants.{Answered as HolderAnswered, Lacking as HolderLacking}
use Rattle.archive_desk.specs.declared.holding.WhoAnswer.{WhoAnswer}
use Rattle.archive_desk.specs.declared.stretches.EvidenceReply.{EvidenceReply}
use Rattle.archive_desk.specs.declared.stretches.EvidenceReply.TheVariants.{Answered as EvidenceAnswered, Lacking as EvidenceLacking}
use Rattle.archive_desk.specs.declared.stretches.FoundStretch.{FoundStretch}
use Rattle.archive_desk.specs.declared.newest.TimelineReply.{TimelineReply}
use Rattle.archive_desk.specs.declared.newest.TimelineReply.TheVariants.{Answered as LinesAnswered, Lacking as LinesLacking}
use Rattle.archive_desk.specs.declared.command_output.CommandOutput.{CommandOutput}
use Rattle.archive_desk.specs.CommandOutputs.{Said}
use Rattle.archive_desk.specs.Names.{journals_line, volumes_note}
use Rattle.archive_desk.specs.CoverageGaps.{BeginsWith, lack_front}

-- the two journals end before this moment
abbrev pub falls_short : Option ℕ → ℕ → Bool
falls_short None end = false
falls_short (Some until) end = nat_lt until end

-- ---- who held a prefix

-- what the desk answers, or that there is nothing
abbrev pub TellsHolderReply : HolderReply → List ℕ → Type 0
TellsHolderReply (HolderAnswered pair spans answer until) text = TellsAnswer (search_of answer) text
TellsHolderReply (HolderLacking side lack) text = text ≡ codes "none\n"

abbrev pub holder_status : HolderReply → ℕ
holder_status (HolderAnswered pair spans answer until) = status_of (search_of answer)
holder_status (HolderLacking side lack) = 1

-- which two files it is of, and of several volumes of a side which
abbrev pub holder_files : {A : Type 0} → List (PathBuf A) → HolderReply → List ℕ
holder_files names (HolderAnswered pair spans answer until) = journals_line names pair ++ volumes_note spans
holder_files names (HolderLacking side lack) = []

-- what the desk notes first of all; and where nothing is shown, what is lacking, by its name
abbrev pub IsHolderNoted : HolderReply → List ℕ → Type 0
IsHolderNoted (HolderAnswered pair spans answer until) notes = BeginsWith (note_of (search_of answer)) notes
IsHolderNoted (HolderLacking side lack) notes = BeginsWith (lack_front side lack) notes

-- its text and behind it what access records say; its status; and on standard error its files and what is noted
pub record IsWhoTold {A : Type 0} (names : List (PathBuf A)) (answer : WhoAnswer) (told : CommandOutput) : Type 0 where
  pub answered : List ℕ
  pub tells : TellsHolderReply answer.reply answered
  pub text : told.text.items ≡ answered ++ answer.access.items
  pub status : told.status ≡ holder_status answer.reply
  pub noted : List ℕ
  pub is_noted : IsHolderNoted answer.reply noted
  pub notes : told.notes.items ≡ holder_files names answer.reply ++ noted

-- ---- the evidence of an interval

-- which two files it is of, and what the desk answers; or that there is nothing
abbrev pub evidence_text : {A : Type 0} → List (PathBuf A) → EvidenceReply → List ℕ
evidence_text names (EvidenceAnswered pair answer warnings until) = journals_line names pair ++ answer_text answer
evidence_text names (EvidenceLacking side lack) = codes "none\n"

-- 0 where what was asked up to a moment was found
abbrev pub evidence_status : ℕ → EvidenceReply → ℕ
evidence_status end (EvidenceAnswered pair answer warnings until) =
    if falls_short until end then 1 else status_of answer
evidence_status end (EvidenceLacking side lack) = 1

-- the warnings and what the desk notes first of all; and where nothing is shown, what is lacking, by its name
abbrev pub IsEvidenceNoted : EvidenceReply → List ℕ → Type 0
IsEvidenceNoted (EvidenceAnswered pair answer warnings until) notes =
    BeginsWith (warnings.items ++ note_of answer) notes
IsEvidenceNoted (EvidenceLacking side lack) notes = BeginsWith (lack_front side lack) notes

-- one stretch more
pub record IsSaidMore {A : Type 0} (names : List (PathBuf A)) (found : FoundStretch) (before after : Said) : Type 0 where
  pub text : after.text ≡ before.text ++ evidence_text names found.reply
  pub status : after.status ≡ (if evidence_status found.end found.reply == 0 then before.status else 1)
  pub noted : List ℕ
  pub is_noted : IsEvidenceNoted found.reply noted
  pub notes : after.notes ≡ before.notes ++ noted

-- one behind the other
abbrev pub AreSaid : {A : Type 0} → List (PathBuf A) → List FoundStretch → (before after : Said) → Type 0
AreSaid names [] before after = after ≡ before
AreSaid names (f ∷ fs) before after = (mid : Said) × IsSaidMore names f before mid × AreSaid names fs mid after

-- ---- all lines in one order

abbrev pub lines_text : {A : Type 0} → List (PathBuf A) → TimelineReply → List ℕ
lines_text names (LinesAnswered pair answer) = journals_line names pair ++ answer.line.items
lines_text names (LinesLacking side lack) = codes "none\n"

abbrev pub lines_status : TimelineReply → ℕ
lines_status (LinesAnswered pair answer) = answer.status
lines_status (LinesLacking side lack) = 1

abbrev pub AreLinesNoted : TimelineReply → List ℕ → Type 0
AreLinesNoted (LinesAnswered pair answer) notes = notes ≡ []
AreLinesNoted (LinesLacking side lack) notes = BeginsWith (lack_front side lack) notes

-- behind the line that names the two files; or that there is nothing, and what is lacking
pub record IsTimelineTold {A : Type 0} (names : List (PathBuf A)) (reply : TimelineReply) (told : CommandOutput)
    : Type 0 where
  pub text : told.text.items ≡ lines_text names reply
  pub status : told.status ≡ lines_status reply
  pub noted : AreLinesNoted reply told.notes.items
