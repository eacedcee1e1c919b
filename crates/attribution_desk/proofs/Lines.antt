-- How long the first text of the input is.
use Rattle.std.proofs.Common.{◌≡◌, ◌≢◌, ℕ, ◌+◌, ◌≤◌, Bool, true, false, cond, List, [], ◌∷◌, length, refl, ap}
use Rattle.std.proofs.Common.{length-append, arith}
use Rattle.text_fields.specs.Cuts.{joined, split}
use Rattle.text_fields.proofs.CutLaws.{joined-split}
use Rattle.attribution_desk.specs.Input.{begins_with_end, first_length, text_length}

ends_by : (b : Bool) (line : List ℕ) (later : ℕ) → b ≡ true → cond b (length line + 1) later ≡ length line + 1
ends_by true line later e = refl
ends_by false line later e = absurd cc

goes_by : (b : Bool) (n later : ℕ) → b ≡ false → cond b n later ≡ later
goes_by true n later e = absurd cc
goes_by false n later e = refl

-- a line that others follow
pub line_ends : (line : List ℕ) (rest : List (List ℕ)) → rest ≢ [] → begins_with_end line ≡ true
    → first_length (line ∷ rest) ≡ length line + 1
unfolding first_length
line_ends line [] some t = absurd (some refl)
line_ends line (next ∷ rest) some t = ends_by (begins_with_end line) line
    (length line + 1 + first_length (next ∷ rest)) t

pub line_goes : (line : List ℕ) (rest : List (List ℕ)) → rest ≢ [] → begins_with_end line ≡ false
    → first_length (line ∷ rest) ≡ length line + 1 + first_length rest
unfolding first_length
line_goes line [] some t = absurd (some refl)
line_goes line (next ∷ rest) some t = goes_by (begins_with_end line) (length line + 1)
    (length line + 1 + first_length (next ∷ rest)) t

-- no text is longer than the input
least_by : (b : Bool) (n later most : ℕ) → n ≤ most → later ≤ most → cond b n later ≤ most
least_by true n later most p q = p
least_by false n later most p q = q

first_within : (lines : List (List ℕ)) → first_length lines ≤ length (joined 10 lines)
unfolding first_length
first_within [] = omega arith
first_within (last ∷ []) = omega arith
first_within (line ∷ next ∷ lines) =
    let whole = length-append line (10 ∷ joined 10 (next ∷ lines)) in
    let rest = first_within (next ∷ lines) in
    least_by (begins_with_end line) (length line + 1) (length line + 1 + first_length (next ∷ lines))
    (length (joined 10 (line ∷ next ∷ lines))) (omega (arith, whole)) (omega (arith, whole, rest))

pub text_within : (input : List ℕ) → text_length input ≤ length input
text_within input = omega (arith, first_within (split 10 input), ap length (joined-split 10 input))
