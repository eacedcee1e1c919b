-- An input that is gathered into chunks.
use Rattle.std.proofs.Common.{◌≡◌, ℕ, List, [], ◌++◌, Option, Some, None, Result, Ok, Err, IfOk, IfSome, sym, ap, subst}
use Rattle.std.proofs.Common.{◌∙◌, append_assoc, append-nil}
use Rattle.std.specs.Io.KnownBytes.{Consumes, IsAtEnd}
use Rattle.std.proofs.KnownBytes.{Consumes-trans}
use Rattle.attribution_desk.specs.declared.error.DeskError.{DeskError}
use Rattle.attribution_desk.specs.Intake.{TakesOn, TakesAll}

all_given : (given left : Option (List ℕ)) (input : List ℕ) → Consumes given left input → IsAtEnd left
    → IfSome given (λ all. all ≡ input)
all_given None left input read ended = tt
all_given (Some all) None input read ended = absurd read
all_given (Some all) (Some rest) input read ended =
    read ∙ (ap (λ (more : List ℕ). input ++ more) ended ∙ append-nil input)

-- behind what was gathered, these octets
pub gathered_on : (given mid left : Option (List ℕ)) (input gathered octets longer : List ℕ)
    → Consumes given mid (input ++ gathered) → Consumes mid left octets → longer ≡ gathered ++ octets
    → Consumes given left (input ++ longer)
gathered_on given mid left input gathered octets longer before now is =
    subst (Consumes given left) (append_assoc input gathered octets ∙ ap (λ (x : List ℕ). input ++ x) (sym is))
    (Consumes-trans given mid left (input ++ gathered) octets before now)

module _ {T : Type 0} (has_taken : T → List ℕ → Type 0) (old : T) where
  -- what was gathered is taken too
  pub taken_on : (taker new : T) (input gathered : List ℕ) → TakesOn has_taken old input taker
      → TakesOn has_taken taker gathered new → TakesOn has_taken old (input ++ gathered) new
  taken_on taker new input gathered first second before h =
      subst (has_taken new) (append_assoc before input gathered) (second (before ++ input) (first before h))

  -- at the end of the input
  pub taken_all : (given mid left : Option (List ℕ)) (taker : T) (input gathered octets : List ℕ)
      (result : Result T DeskError)
      → TakesOn has_taken old input taker → Consumes given mid (input ++ gathered) → Consumes mid left octets
      → octets ≡ [] → IsAtEnd left
      → IfOk result (TakesOn has_taken taker gathered) → IfOk result (TakesAll has_taken old given)
  taken_all given mid left taker input gathered octets (Ok new) first before now none ended second = (
    input ++ gathered,
    taken_on taker new input gathered first second,
    all_given given left (input ++ gathered)
        (gathered_on given mid left input gathered octets gathered before now
        (sym (ap (λ (x : List ℕ). gathered ++ x) none ∙ append-nil gathered))) ended,
  )
  taken_all given mid left taker input gathered octets (Err e) first before now none ended second = tt
