-- The number that a text spells, up to a limit.
use Rattle.std.proofs.Common.{◌≡◌, ◌<◌, ◌∙◌, sym, ℕ, ◌^◌, List, Option, Some, None}
use Rattle.std.proofs.Common.{ap, arith}
use Rattle.clap.specs.Words.{Text}
use Rattle.text_fields.specs.Number.{number_of}
use Rattle.text_fields.proofs.NumberLaws.{number_again}
use Rattle.desk_args.specs.Given.{IsNumber}

-- a text that gives a number spells it
spelled_number : (most : ℕ) → most < 2 ^ 64 → (text : List ℕ) (n : ℕ) → IsNumber most (Some text) n
    → number_of text ≡ Some n
spelled_number most fits text n is = ap number_of is.0 ∙ number_again n (let le = is.1 in omega arith)

pub none_spelled : (most : ℕ) → most < 2 ^ 64 → (text : List ℕ) → number_of text ≡ None → (n : ℕ)
    → IsNumber most (Some text) n → ⊥
none_spelled most fits text none n is = let some : None ≡ Some n = sym none ∙ spelled_number most fits text n is in cc

-- a number past the limit is none
pub none_within : (most : ℕ) → most < 2 ^ 64 → (text : List ℕ) (number : ℕ) → number_of text ≡ Some number
    → most < number → (n : ℕ) → IsNumber most (Some text) n → ⊥
none_within most fits text number some past n is =
    let same : Some number ≡ Some n = sym some ∙ spelled_number most fits text n is in
    let one : number ≡ n = cc in
    let le = is.1 in absurd (omega (arith, one))

-- an option has one number
pub same_number : (most : ℕ) → most < 2 ^ 64 → (o : Option Text) (n m : ℕ) → IsNumber most o n → IsNumber most o m
    → n ≡ m
same_number most fits (Some text) n m a b = let same : Some n ≡ Some m =
    sym (spelled_number most fits text n a) ∙ spelled_number most fits text m b in cc
same_number most fits None n m a b = absurd a
