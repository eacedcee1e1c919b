-- What is known of a reader that was read to its end.
use Rattle.std.proofs.Common.{◌≡◌, ℕ, List, Option, Some, None, Result, Ok, Err, sym, subst}
use Rattle.std.specs.Prelude.{IfSome, IfOk}
use Rattle.binding_rules.specs.declared.role.Role.TheVariants.{Primary, Secondary}
use Rattle.journal_lines.specs.declared.fault.JournalFault.{JournalFault}
use Rattle.journal_lines.specs.declared.line.Journal.{Journal}
use Rattle.journal_text.specs.Faults.{journal_of_side}
use Rattle.attribution_desk.specs.declared.error.DeskError.{DeskError}
use Rattle.attribution_desk.specs.Input.{first_text, text_behind}
use Rattle.attribution_desk.specs.Timeline.{IsTimelineOf, IsTimeline}
use Rattle.std.specs.Io.KnownBytes.{Appends}
use Rattle.attribution_desk.specs.Running.{IsWritten}

-- what was written is the answer to all that the reader had to give
pub written : (answers : List ℕ → List ℕ → ℕ → Type 0) (given held now : Option (List ℕ)) (input text : List ℕ)
    (status : ℕ) → IfSome given (λ all. all ≡ input) → answers input text status → Appends held now text
    → IsWritten answers given held now status
written answers None held now input text status is answer appended = tt
written answers (Some all) held now input text status is answer appended =
    (text, subst (λ i. answers i text status) (sym is) answer, appended)

-- what is so of the input is so of all that the reader had to give, where that is known
pub of_known : (says : List ℕ → Type 0) (given : Option (List ℕ)) (input : List ℕ) → IfSome given (λ all. all ≡ input)
    → says input → IfSome given says
of_known says None input is h = tt
of_known says (Some all) input is h = subst says (sym is) h

-- what is so of what the texts of an input were read to is so of the input
pub of_input : (P : Result Journal JournalFault → Result Journal JournalFault → List ℕ
    → Type 0) (input : List ℕ) (a b : Result Journal JournalFault) (rest : List ℕ)
    → a ≡ journal_of_side Primary (first_text input) → b ≡ journal_of_side Secondary (first_text (text_behind input))
    → rest ≡ text_behind (text_behind input)
    → P a b rest → P (journal_of_side Primary (first_text input))
    (journal_of_side Secondary (first_text (text_behind input))) (text_behind (text_behind input))
of_input P input a b rest ea eb er h = subst
    (λ r. P (journal_of_side Primary (first_text input)) (journal_of_side Secondary (first_text (text_behind input)))
    r) er (subst (λ x. P (journal_of_side Primary (first_text input)) x rest) eb (subst (λ x. P x b rest) ea h))

-- the same of two texts
pub of_pair : (P : Result Journal JournalFault → Result Journal JournalFault
    → Type 0) (input : List ℕ) (a b : Result Journal JournalFault)
    → a ≡ journal_of_side Primary (first_text input) → b ≡ journal_of_side Secondary (text_behind input) → P a b
    → P (journal_of_side Primary (first_text input)) (journal_of_side Secondary (text_behind input))
of_pair P input a b ea eb h = subst (λ x. P (journal_of_side Primary (first_text input)) x) eb (subst (λ x. P x b) ea h)
