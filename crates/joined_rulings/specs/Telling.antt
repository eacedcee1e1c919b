-- How rulings on certificates are written.
use Rattle.std.specs.Prelude.{◌≡◌, ℕ, List, [], ◌∷◌, ◌++◌, ◌==◌, if◌then◌else◌}
use Rattle.std.specs.List.{flat_map}
use Rattle.std.specs.declared.path.buf.PathBuf.{PathBuf}
use Rattle.attribution.specs.declared.verdict.Verdict.TheVariants.{Accepted}
use Rattle.pair_judgement.specs.declared.judging.Judgement.TheVariants.{Verdict}
use Rattle.pair_judgement.specs.Judgements.{judgement_line}
use Rattle.attribution_desk.specs.Batch.{status_of_all}
use Rattle.archive_desk.specs.declared.command_output.CommandOutput.{CommandOutput}
use Rattle.archive_desk.specs.Certificates.{line_of, status_of as own_status, IsNotedOf as IsOwnNoted}
use Rattle.archive_desk.specs.CommandOutputs.{Said, said_of, noted_first}
use Rattle.archive_desk.specs.Failing.{IsRefusal}
use Rattle.archive_desk.specs.Names.{journals_line, volumes_note}
use Rattle.archive_desk.specs.Warnings.{warned_all}
use Rattle.joined_rulings.specs.declared.trial.SpanRuling.{SpanRuling}
use Rattle.joined_rulings.specs.declared.widest.CertificateRuling.{CertificateRuling}
use Rattle.joined_rulings.specs.declared.widest.CertificateRuling.TheVariants.{Own, Joined}
use Rattle.joined_rulings.specs.declared.widest.SpannedAudit.{SpannedAudit}
use Rattle.joined_rulings.specs.declared.given.GivenRulings.{GivenRulings}
use Rattle.joined_rulings.specs.declared.given.GivenReply.{GivenReply}
use Rattle.joined_rulings.specs.declared.given.GivenReply.TheVariants.{Ruled, Missing, Refused}
use Rattle.joined_rulings.specs.declared.given.GivenAudit.{GivenAudit}
use Rattle.joined_rulings.specs.Lacks.{missing_line, refusal_line, IsLackTold}

-- ---- over the moments' own volumes and earlier ones

-- of its own pair the line that the desk tells; of spans that it's accepted
abbrev pub ruling_line : CertificateRuling → List ℕ
ruling_line (Own own) = line_of own
ruling_line (Joined ruling) = judgement_line (Verdict Accepted)

abbrev pub status_of : CertificateRuling → ℕ
status_of (Own own) = own_status own
status_of (Joined ruling) = 0

-- the last files, the volumes where they are several of a side, and the warnings on the two journals
abbrev pub joined_notes : {A : Type 0} → List (PathBuf A) → SpanRuling → List ℕ
joined_notes names ruling =
    journals_line names ruling.pair ++ (volumes_note ruling.spans ++ ruling.warnings.items)

-- of its own pair what the desk notes; of spans these
abbrev pub IsNotedOf : {A : Type 0} → List (PathBuf A) → CertificateRuling → List ℕ → Type 0
IsNotedOf names (Own own) notes = IsOwnNoted names own notes
IsNotedOf names (Joined ruling) notes = notes ≡ joined_notes names ruling

-- one certificate more
pub record IsRulingMore {A : Type 0} (names : List (PathBuf A)) (ruling : CertificateRuling)
    (before after : Said) : Type 0 where
  pub text : after.text ≡ before.text ++ ruling_line ruling
  pub status : after.status ≡ (if status_of ruling == 0 then before.status else 1)
  pub noted : List ℕ
  pub is_noted : IsNotedOf names ruling noted
  pub notes : after.notes ≡ before.notes ++ noted

-- one behind the other
abbrev pub AreRulingsSaid : {A : Type 0} → List (PathBuf A) → List CertificateRuling → (before after : Said) → Type 0
AreRulingsSaid names [] before after = after ≡ before
AreRulingsSaid names (ruling ∷ rs) before after =
    (mid : Said) × IsRulingMore names ruling before mid × AreRulingsSaid names rs mid after

-- behind the files that are passed over, and the warnings on the certificates' own pairs of volumes
pub record IsAuditTold {A : Type 0} (names : List (PathBuf A)) (audit : SpannedAudit) (told : CommandOutput) : Type 0
  where
    pub passed : List ℕ
    pub said : AreRulingsSaid names audit.rulings.items (noted_first (passed ++ warned_all names audit.warnings.items))
        (said_of told)

-- ---- over given volumes

-- The lines of the rulings, one behind the other, and 0 where each accepts. Standard error says behind the files that
-- are passed over which are the last files, which are the volumes where they are several of a side, and the warnings.
pub record AreRulingsTold {A : Type 0} (names : List (PathBuf A)) (passed : List ℕ) (g : GivenRulings)
    (told : CommandOutput) : Type 0 where
  pub text : told.text.items ≡ flat_map judgement_line g.rulings.items
  pub status : told.status ≡ status_of_all g.rulings.items
  pub notes : told.notes.items
      ≡ passed ++ (journals_line names g.pair ++ (volumes_note g.spans ++ g.warnings.items))

-- or which volume is missing, or why the volumes of a side aren't one journal
abbrev pub IsReplyTold : {A : Type 0} → List (PathBuf A) → (passed : List ℕ) → GivenReply → CommandOutput → Type 0
IsReplyTold names passed (Ruled g) told = AreRulingsTold names passed g told
IsReplyTold names passed (Missing side number) told = IsLackTold passed (missing_line side number) told
IsReplyTold names passed (Refused refusal) told = IsRefusal (refusal_line names refusal) told

abbrev pub IsGivenTold : {A : Type 0} → List (PathBuf A) → GivenAudit → CommandOutput → Type 0
IsGivenTold names audit told = (passed : List ℕ) × IsReplyTold names passed audit.reply told
