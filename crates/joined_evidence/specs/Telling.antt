-- How the evidence of an interval is written.
use Rattle.std.specs.Prelude.{◌≡◌, ℕ, List, [], ◌∷◌, ◌++◌, ◌==◌, if◌then◌else◌}
use Rattle.std.specs.declared.path.buf.PathBuf.{PathBuf}
use Rattle.certificate.specs.Spelling.{certificate_text}
use Rattle.archive_desk.specs.declared.command_output.CommandOutput.{CommandOutput}
use Rattle.archive_desk.specs.CommandOutputs.{Said, said_of, noted_first}
use Rattle.archive_desk.specs.CoverageGaps.{BeginsWith}
use Rattle.archive_desk.specs.Names.{journals_line, volumes_note}
use Rattle.archive_desk.specs.Telling.{falls_short, evidence_text, evidence_status, IsEvidenceNoted}
use Rattle.joined_evidence.specs.declared.span_searching.SpanEvidence.{SpanEvidence}
use Rattle.joined_evidence.specs.declared.stretches.SpannedStretch.{SpannedStretch}
use Rattle.joined_evidence.specs.declared.stretches.SpannedStretch.TheVariants.{Own, Joined}
use Rattle.joined_evidence.specs.declared.stretches.SpannedEvidence.{SpannedEvidence}

-- ---- over spans

-- which are the last two files, and the certificate
abbrev pub joined_text : {A : Type 0} → List (PathBuf A) → SpanEvidence → List ℕ
joined_text names e = journals_line names e.pair ++ certificate_text e.certificate

-- 0 where they show all before the stretch's end
abbrev pub joined_status : ℕ → SpanEvidence → ℕ
joined_status end e = if falls_short e.until end then 1 else 0

-- the volumes where they are several of a side, and the warnings, first of all
abbrev pub IsJoinedNoted : SpanEvidence → List ℕ → Type 0
IsJoinedNoted e notes = BeginsWith (volumes_note e.spans ++ e.warnings.items) notes

-- ---- over its own pair as the desk tells it, or over spans

abbrev pub stretch_text : {A : Type 0} → List (PathBuf A) → SpannedStretch → List ℕ
stretch_text names (Own found) = evidence_text names found.reply
stretch_text names (Joined e end) = joined_text names e

abbrev pub stretch_status : SpannedStretch → ℕ
stretch_status (Own found) = evidence_status found.end found.reply
stretch_status (Joined e end) = joined_status end e

abbrev pub IsStretchNoted : SpannedStretch → List ℕ → Type 0
IsStretchNoted (Own found) notes = IsEvidenceNoted found.reply notes
IsStretchNoted (Joined e end) notes = IsJoinedNoted e notes

-- one stretch more
pub record IsStretchMore {A : Type 0} (names : List (PathBuf A)) (stretch : SpannedStretch) (before after : Said)
    : Type 0 where
  pub text : after.text ≡ before.text ++ stretch_text names stretch
  pub status : after.status ≡ (if stretch_status stretch == 0 then before.status else 1)
  pub noted : List ℕ
  pub is_noted : IsStretchNoted stretch noted
  pub notes : after.notes ≡ before.notes ++ noted

-- one behind the other
abbrev pub AreStretchesSaid : {A : Type 0} → List (PathBuf A) → List SpannedStretch → (before after : Said) → Type 0
AreStretchesSaid names [] before after = after ≡ before
AreStretchesSaid names (s ∷ ss) before after =
    (mid : Said) × IsStretchMore names s before mid × AreStretchesSaid names ss mid after

-- behind the files that are passed over
pub record IsEvidenceTold {A : Type 0} (names : List (PathBuf A)) (answer : SpannedEvidence) (told : CommandOutput)
    : Type 0 where
  pub passed : List ℕ
  pub said : AreStretchesSaid names answer.stretches.items (noted_first passed) (said_of told)
