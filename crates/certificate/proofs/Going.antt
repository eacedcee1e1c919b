-- One line after another.
use Rattle.std.proofs.Common.{◌≡◌, ◌≢◌, ℕ, suc, ◌<◌, true, false, cond, List, [], ◌∷◌, length, Some, None, Result, Ok}
use Rattle.std.proofs.Common.{Err, refl, ap, ◌∙◌, arith}
use Rattle.std.specs.Str.{bytes_eq}
use Rattle.text_fields.specs.Cuts.{split}
use Rattle.causal_order.specs.declared.certificate.Certificate.{Certificate}
use Rattle.causal_order.specs.declared.fault.CertificateFault.{CertificateFault}
use Rattle.causal_order.specs.declared.fault.CertificateFault.TheVariants.{Form, End}
use Rattle.certificate.specs.Spelling.{end_text}
use Rattle.certificate.specs.Lines.{with_line}
use Rattle.text_fields.specs.Parsing.{◌>>!◌}
use Rattle.certificate.specs.Faults.{or_form, line_before, line_at, ended_by, claim_on}
use Rattle.certificate.proofs.FaultSteps.{ok_is}

-- what a line of its own makes of the certificate so far
abbrev by_line : ℕ → Certificate → List ℕ → List (List ℕ) → Result Certificate CertificateFault
by_line number c line left = cond (bytes_eq line end_text) (ended_by c left)
    (or_form number (with_line c (split 32 line)) >>! λ more. claim_on (suc number) more left)

abbrev with_left : Result (List ℕ) CertificateFault → List (List ℕ) → Result (List ℕ × List (List ℕ)) CertificateFault
with_left r left = r >>! λ w. Ok (w, left)

regroup : (r : Result (List ℕ) CertificateFault) (left : List (List ℕ)) (f : List ℕ → List (List ℕ)
    → Result Certificate CertificateFault) → (r >>! λ w. f w left) ≡ (with_left r left >>! λ x. f x.0 x.1)
regroup (Ok w) left f = refl
regroup (Err fault) left f = refl

one_line : (number : ℕ) (c : Certificate) (lines : List (List ℕ))
    → claim_on number c lines ≡ (line_at number lines >>! λ x. by_line number c x.0 x.1)
unfolding claim_on
one_line number c [] = refl
one_line number c (line ∷ left) = regroup (line_before number line left) left (by_line number c)

pub line_missing : (number : ℕ) (c : Certificate) (lines : List (List ℕ)) (fault : CertificateFault)
    → line_at number lines ≡ Err fault → claim_on number c lines ≡ Err fault
line_missing number c lines fault e = one_line number c lines ∙ rw e refl

pub end_found : (number : ℕ) (c : Certificate) (lines : List (List ℕ)) (line : List ℕ) (left : List (List ℕ))
    → line_at number lines ≡ Ok (line, left) → bytes_eq line end_text ≡ true → left ≡ [] ∷ []
    → claim_on number c lines ≡ Ok c
end_found number c lines line left e end none = one_line number c lines ∙ rw (e, end, none) refl

more_left : (c : Certificate) (left : List (List ℕ)) → left ≢ [] ∷ [] → ended_by c left ≡ Err End
more_left c [] h = refl
more_left c ([] ∷ []) h = absurd (h refl)
more_left c ([] ∷ next ∷ left) h = refl
more_left c ((b ∷ line) ∷ left) h = refl

pub end_passed : (number : ℕ) (c : Certificate) (lines : List (List ℕ)) (line : List ℕ) (left : List (List ℕ))
    → line_at number lines ≡ Ok (line, left) → bytes_eq line end_text ≡ true → left ≢ [] ∷ []
    → claim_on number c lines ≡ Err End
end_passed number c lines line left e end some = one_line number c lines ∙ rw (e, end) (more_left c left some)

pub line_wrong : (number : ℕ) (c : Certificate) (lines : List (List ℕ)) (line : List ℕ) (left : List (List ℕ))
    → line_at number lines ≡ Ok (line, left) → bytes_eq line end_text ≡ false → with_line c (split 32 line) ≡ None
    → claim_on number c lines ≡ Err (Form number)
line_wrong number c lines line left e other none = one_line number c lines ∙ rw (e, other, none) refl

pub line_added : (number : ℕ) (c more : Certificate) (lines : List (List ℕ)) (line : List ℕ) (left : List (List ℕ))
    → line_at number lines ≡ Ok (line, left) → bytes_eq line end_text ≡ false → with_line c (split 32 line) ≡ Some more
    → claim_on number c lines ≡ claim_on (suc number) more left
line_added number c more lines line left e other some = one_line number c lines ∙ rw (e, other, some) refl

left_of : (r : Result (List ℕ) CertificateFault) (rest : List (List ℕ)) (line : List ℕ) (left : List (List ℕ))
    → with_left r rest ≡ Ok (line, left) → rest ≡ left
left_of (Ok w) rest line left e = ap (λ (p : List ℕ × List (List ℕ)). p.1) (ok_is (w, rest) (line, left) e)
left_of (Err fault) rest line left e = absurd cc

pub line_shorter : (number : ℕ) (lines : List (List ℕ)) (line : List ℕ) (left : List (List ℕ))
    → line_at number lines ≡ Ok (line, left) → length left < length lines
line_shorter number [] line left e = absurd cc
line_shorter number (first ∷ rest) line left e =
    omega (arith, ap length (left_of (line_before number first rest) rest line left e))

-- what the next line makes of the certificate so far
pub ruleset next_line = (line_missing, end_found, end_passed, line_wrong, line_added, line_shorter)
