-- Standard input that comes in chunks.
use Rattle.std.specs.Prelude.{◌≡◌, ℕ, ◌+◌, List, ◌++◌, length, Option, IfSome, MatchOption}
use Rattle.text_fields.specs.Cuts.{Lacks}
use Rattle.binding_rules.specs.declared.role.Role.{Role}
use Rattle.binding_rules.specs.declared.role.Role.TheVariants.{Primary, Secondary}
use Rattle.journal_text.specs.Faults.{journal_of_side}
use Rattle.journal_text.specs.Progress.{HasTaken as HasParsed}
use Rattle.attribution_desk.specs.declared.journal_intake.JournalIntake.{JournalIntake}
use Rattle.attribution_desk.specs.declared.intake.Intake.{Intake}
use Rattle.attribution_desk.specs.declared.pair_intake.PairIntake.{PairIntake}
use Rattle.attribution_desk.specs.Input.{text_length}
use Rattle.attribution_desk.specs.Input.{first_text, text_behind}

-- what took some input before has now taken this input behind it
abbrev pub TakesOn : {T : Type 0} → (T → List ℕ → Type 0) → T → List ℕ → T → Type 0
TakesOn has_taken old input new = (before : List ℕ) → has_taken old before → has_taken new (before ++ input)

-- the same of all that a reader had to give, where that is known
abbrev pub TakesAll : {T : Type 0} → (T → List ℕ → Type 0) → T → Option (List ℕ) → T → Type 0
TakesAll has_taken old given new =
    (input : List ℕ) × TakesOn has_taken old input new × IfSome given (λ all. all ≡ input)

-- this is the first text, whatever follows
abbrev pub IsWholeText : List ℕ → Type 0
IsWholeText text = (more : List ℕ) → text_length (text ++ more) ≡ length text

-- the input's first text stays, whatever follows
abbrev pub TextHasEnded : List ℕ → Type 0
TextHasEnded input = (more : List ℕ) → text_length (input ++ more) ≡ text_length input

-- The input's first text goes on, in a line that begins with these octets: whatever follows, as much of that belongs to
-- it as behind these octets alone.
pub record TextGoesOn (input line : List ℕ) : Type 0 where
  pub unbroken : Lacks 10 line
  pub alike : (more : List ℕ) → text_length (input ++ more) + length line ≡ length input + text_length (line ++ more)

-- The intake of this side's journal has taken its text, the first of the input, which has ended or else goes on in the
-- line that begins so.
pub record HasTakenFirst (side : Role) (intake : JournalIntake) (input : List ℕ) : Type 0 where
  pub read : HasParsed (journal_of_side side) intake.reader (first_text input)
  pub stands : MatchOption intake.line (TextHasEnded input) (λ line. TextGoesOn input line.items)

-- the intake has taken this input: journal A and journal B, as far as they have come, B's text all that follows A's
pub record HasTakenPair (intake : PairIntake) (input : List ℕ) : Type 0 where
  pub primary : HasTakenFirst Primary intake.primary input
  pub secondary : HasParsed (journal_of_side Secondary) intake.secondary (text_behind input)

-- the intake has taken this input: journal A, journal B and the certificate, as far as they have come
pub record IntakeHasTaken (intake : Intake) (input : List ℕ) : Type 0 where
  pub primary : HasTakenFirst Primary intake.primary input
  pub secondary : HasTakenFirst Secondary intake.secondary (text_behind input)
  pub certificate : intake.certificate.items ≡ text_behind (text_behind input)
