-- Cutting a text at its first stop.
use Rattle.std.proofs.Common.{◌≡◌, ◌≢◌, ℕ, zero, suc, ◌<◌, List, [], ◌∷◌, length, get_or, take, drop, refl, arith, Bool}
use Rattle.std.proofs.Common.{true, false, Option, Some, None, Bor}
use Rattle.std.specs.Prelude.{◌==◌, if◌then◌else◌, IsTrue, is_some, not}
use Rattle.std.proofs.lemmas.Bool.{eq-eqb, ne_eqb}
use Rattle.text_fields.specs.Cuts.{split, in_front, cuts_left}

pub split_found : (text : List ℕ) (stop i : ℕ) → i < length text → ((k : ℕ) → k < i → get_or text k 0 ≢ stop)
    → get_or text i 0 ≡ stop → split stop text ≡ take i text ∷ split stop (drop (suc i) text)
unfolding split
split_found [] stop i lt before here = absurd (omega arith)
split_found (b ∷ text) stop zero lt before here = rw (eq-eqb b stop here) refl
split_found (b ∷ text) stop (suc i) lt before here =
    let rest = split_found text stop i (omega arith) (λ k h. before (suc k) (omega arith)) here in
    rw (ne_eqb b stop (before 0 (omega arith)), rest) refl

pub split_none : (text : List ℕ) (stop : ℕ) → ((k : ℕ) → k < length text → get_or text k 0 ≢ stop)
    → split stop text ≡ text ∷ []
unfolding split
split_none [] stop h = refl
split_none (b ∷ text) stop h = rw (
  ne_eqb b stop (h 0 (omega arith)),
  split_none text stop (λ k lt. h (suc k) (omega arith)),
) refl

-- a text has a cut
in_front_some : (b : ℕ) (cuts : List (List ℕ)) → in_front b cuts ≢ []
in_front_some b [] e = cc
in_front_some b (cut ∷ cuts) e = cc

pub split_some : (stop : ℕ) (text : List ℕ) → split stop text ≢ []
unfolding split
split_some stop [] e = cc
split_some stop (b ∷ text) e = by (b == stop) e
  where
    by : (t : Bool) → (if t then [] ∷ split stop text else in_front b (split stop text)) ≡ [] → ⊥
    by true e = cc
    by false e = in_front_some b (split stop text) e

pub none_left : (stop : ℕ) (rest : Option (Bor (List ℕ))) (done : Bool) → is_some rest ≡ not done
    → (IsTrue done → cuts_left stop rest ≡ []) × (cuts_left stop rest ≡ [] → IsTrue done)
none_left stop None true e = (λ h. refl, λ h. refl)
none_left stop None false e = absurd cc
none_left stop (Some rest) true e = absurd cc
none_left stop (Some rest) false e = (λ h. absurd (cc), λ h. absurd (split_some stop rest.now h))
