-- Texts that end with a line feed.
use Rattle.std.specs.Prelude.{◌≡◌, ◌≢◌, ℕ, Bool, true, false, ◌==◌, List, [], ◌∷◌, ◌++◌, Option, Some, None}
use Rattle.std.specs.Prelude.{MatchOption}
use Rattle.std.specs.Borrow.{Bor}
use Rattle.std.specs.Option.{option_map}
use Rattle.std.proofs.Common.{sym, ◌∙◌, ap, refl}
use Rattle.std.proofs.lemmas.Bool.Decides.{Decides-eqb}
use Rattle.desk_reports.specs.Unanswered.{cut_at, cut_end}

appended : (text : List ℕ) → cut_end (text ++ 10 ∷ []) ≡ Some text
appended [] = refl
appended (b ∷ []) = refl
appended (b ∷ c ∷ text) = ap (option_map (λ cut. b ∷ cut)) (appended (c ∷ text))

none_at : (t : Bool) → (t ≡ true → ⊥) → cut_at t ≡ None
none_at true other = absurd (other refl)
none_at false other = refl

-- a text that ends otherwise
uncut : (text : List ℕ) → ((front : List ℕ) → text ≢ front ++ 10 ∷ []) → cut_end text ≡ None
uncut [] not = refl
uncut (b ∷ []) not = none_at (b == 10) (λ e. not [] (ap (λ x. x ∷ []) ((Decides-eqb b 10).0 e)))
uncut (b ∷ c ∷ text) not =
    ap (option_map (λ cut. b ∷ cut)) (uncut (c ∷ text) (λ front e. not (b ∷ front) (ap (λ x. b ∷ x) e)))

pub cut_so : (text : List ℕ) (r : Option (Bor (List ℕ)))
    → MatchOption r ((front : List ℕ) → text ≢ front ++ 10 ∷ []) (λ x. text ≡ x.now ++ 10 ∷ [])
    → option_map (λ cut. cut.now) r ≡ cut_end text
cut_so text (Some x) is = sym (ap cut_end is ∙ appended x.now)
cut_so text None not = sym (uncut text not)
