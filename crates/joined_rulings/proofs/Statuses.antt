-- The status of rulings.
use Rattle.std.specs.Prelude.{◌≡◌, ◌≢◌, ℕ, ◌-◌, ◌≤◌, ◌==◌, Bool, true, false, List, [], ◌∷◌}
use Rattle.std.specs.Prelude.{length, take, drop, if◌then◌else◌}
use Rattle.std.proofs.Common.{get_or, arith, sym, ◌∙◌, ap, refl}
use Rattle.std.proofs.lemmas.List.{take_all}
use Rattle.std.proofs.lemmas.Bool.Decides.{Decides-eqb}
use Rattle.pair_judgement.specs.declared.judging.Judgement.{Judgement}
use Rattle.pair_judgement.specs.Judgements.{status_of}
use Rattle.attribution_desk.specs.Batch.{status_of_all}

-- a list is its first item and what stands after it
behind_first : (rs : List Judgement) (r : Judgement) → 1 ≤ length rs → r ≡ get_or rs 0 r
    → rs ≡ r ∷ take (length rs - 1) (drop 1 rs)
behind_first [] r some is = absurd (omega arith)
behind_first (x ∷ xs) r some is =
    let n : length (x ∷ xs) - 1 ≡ length xs = omega arith in
    let t : take (length xs) xs ≡ xs = take_all (length xs) xs (omega arith) in
    rw (n, t) (ap (λ y. y ∷ xs) (sym is))

of_first : (r : Judgement) (rs : List Judgement) → status_of r ≡ 0 → status_of_all (r ∷ rs) ≡ status_of_all rs
of_first r rs zero = rw zero refl

not_zero : (n m : ℕ) → (n ≢ 0) → (if n == 0 then m else 1) ≡ 1
not_zero n m some = by_test (n == 0) refl where
  by_test : (t : Bool) → (n == 0) ≡ t → (if t then m else 1) ≡ 1
  by_test true e = absurd (some ((Decides-eqb n 0).0 e))
  by_test false e = refl

pub one_more : (rs : List Judgement) (r : Judgement) → 1 ≤ length rs → r ≡ get_or rs 0 r → status_of r ≡ 0
    → status_of_all (take (length rs - 1) (drop 1 rs)) ≡ status_of_all rs
one_more rs r some first zero =
    sym (of_first r (take (length rs - 1) (drop 1 rs)) zero) ∙ ap status_of_all (sym (behind_first rs r some first))

pub one_not : (rs : List Judgement) (r : Judgement) → 1 ≤ length rs → r ≡ get_or rs 0 r → status_of r ≢ 0
    → status_of_all rs ≡ 1
one_not rs r some first not =
    ap status_of_all (behind_first rs r some first)
    ∙ not_zero (status_of r) (status_of_all (take (length rs - 1) (drop 1 rs))) not

pub no_more : (rs : List Judgement) → length rs ≡ 0 → status_of_all rs ≡ 0
no_more [] none = refl
no_more (r ∷ rs) none = absurd (omega arith)
