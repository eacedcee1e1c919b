-- What the desk answers to two journals and any number of certificates.
use Rattle.std.specs.Prelude.{◌≡◌, ◌≢◌, ⊤, ℕ, List, [], ◌∷◌, flat_map, ◌==◌, if◌then◌else◌, Result}
use Rattle.binding_rules.specs.declared.role.Role.TheVariants.{Primary, Secondary}
use Rattle.journal_lines.specs.declared.line.Journal.{Journal}
use Rattle.journal_lines.specs.declared.fault.JournalFault.{JournalFault}
use Rattle.journal_text.specs.Faults.{journal_of_side}
use Rattle.certificate.specs.Faults.{certificate_of}
use Rattle.pair_judgement.specs.declared.judging.Judgement.{Judgement}
use Rattle.pair_judgement.specs.Judgements.{judgement_line, status_of}
use Rattle.attribution_desk.specs.Judgements.{IsJudgementOfParsed}
use Rattle.attribution_desk.specs.Input.{first_text, text_behind}

-- The texts of certificates, one after another: each up to and with its first line that begins with `end`. A rest
-- without such a line is the last, and an empty rest is none.
abbrev pub AreTexts : List ℕ → List (List ℕ) → Type 0
AreTexts rest [] = rest ≡ []
AreTexts rest (text ∷ texts) = (rest ≢ []) × (text ≡ first_text rest) × AreTexts (text_behind rest) texts

-- on each of them its ruling, in order
abbrev pub AreRuled : Result Journal JournalFault → Result Journal JournalFault → (skew transit : ℕ)
    → List (List ℕ) → List Judgement → Type 0
AreRuled a b skew transit [] [] = ⊤
AreRuled a b skew transit (text ∷ texts) (r ∷ rs) =
    IsJudgementOfParsed a b skew transit (certificate_of text) r × AreRuled a b skew transit texts rs
AreRuled a b skew transit [] (r ∷ rs) = ⊥
AreRuled a b skew transit (text ∷ texts) [] = ⊥

-- 0 where that is each one's status
abbrev pub status_of_all : List Judgement → ℕ
status_of_all [] = 0
status_of_all (r ∷ rs) = if status_of r == 0 then status_of_all rs else 1

-- the rulings on the certificates behind two journals
abbrev pub AreRulings : Result Journal JournalFault → Result Journal JournalFault → List ℕ → (skew transit : ℕ)
    → List Judgement → Type 0
AreRulings a b rest skew transit rs =
    (texts : List (List ℕ)) × AreTexts rest texts × AreRuled a b skew transit texts rs

-- their lines, and the status
abbrev pub IsBatchOf : Result Journal JournalFault → Result Journal JournalFault → List ℕ → (skew transit : ℕ)
    → List ℕ → ℕ → Type 0
IsBatchOf a b rest skew transit text status =
    (rs : List Judgement) × AreRulings a b rest skew transit rs
    × (text ≡ flat_map judgement_line rs) × (status ≡ status_of_all rs)

-- of an input: journal A, journal B, and the certificates, which are all that follows
abbrev pub IsBatch : List ℕ → (skew transit : ℕ) → List ℕ → ℕ → Type 0
IsBatch input skew transit text status =
    IsBatchOf (journal_of_side Primary (first_text input)) (journal_of_side Secondary (first_text (text_behind input)))
    (text_behind (text_behind input)) skew transit text status
