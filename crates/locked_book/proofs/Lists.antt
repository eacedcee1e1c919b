-- Lists with one element more.
use Rattle.std.specs.Prelude.{◌≡◌, ℕ, zero, suc, ◌+◌, ◌-◌, ◌<◌, ◌≤◌, List, [], ◌∷◌, ◌++◌, length, take, slice_get, Some}
use Rattle.std.specs.Prelude.{All}
use Rattle.std.proofs.Common.{refl, ap, sym, subst, ◌∙◌, get_or, length-append, arith}
use Rattle.std.proofs.lemmas.List.{take_more}
use Rattle.std.proofs.lemmas.List.Elements.{All-push}

pub get_front : {X : Type 0} (xs ys : List X) (i : ℕ) → i < length xs → slice_get (xs ++ ys) i ≡ slice_get xs i
get_front [] ys i h = absurd (omega arith)
get_front (x ∷ xs) ys zero h = refl
get_front (x ∷ xs) ys (suc i) h = get_front xs ys i (omega arith)

pub get_last : {X : Type 0} (xs : List X) (x : X) → slice_get (xs ++ x ∷ []) (length xs) ≡ Some x
get_last [] x = refl
get_last (y ∷ xs) x = get_last xs x

pub take_front : {X : Type 0} (xs ys : List X) (n : ℕ) → n ≤ length xs → take n (xs ++ ys) ≡ take n xs
take_front xs ys zero h = refl
take_front [] ys (suc n) h = absurd (omega arith)
take_front (x ∷ xs) ys (suc n) h = ap (λ zs. x ∷ zs) (take_front xs ys n (omega arith))

pub take_all : {X : Type 0} (xs : List X) → take (length xs) xs ≡ xs
take_all [] = refl
take_all (x ∷ xs) = ap (λ zs. x ∷ zs) (take_all xs)

-- ---- what holds of each element so far

pub all_more : {X : Type 0} (P : X → Type 0) (xs : List X) (i : ℕ) (x : X) → i < length xs → x ≡ get_or xs i x → P x
    → All P (take i xs) → All P (take (i + 1) xs)
all_more P xs i x lt is holds before =
    subst (All P) (sym (take_more xs i x lt)) (All-push P (take i xs) (get_or xs i x) before (subst P is holds))

pub take_end : {X : Type 0} (xs : List X) (i : ℕ) → length xs ≤ i → take i xs ≡ xs
take_end [] zero h = refl
take_end [] (suc i) h = refl
take_end (x ∷ xs) zero h = absurd (omega arith)
take_end (x ∷ xs) (suc i) h = ap (λ zs. x ∷ zs) (take_end xs i (omega arith))

-- the last of a list with one element more
pub latest_is : {X : Type 0} (xs zs : List X) (x y : X) → zs ≡ xs ++ x ∷ [] → slice_get zs (length zs - 1) ≡ Some y
    → y ≡ x
latest_is xs zs x y is at =
    let a = length-append xs (x ∷ []) in
    let place : length (xs ++ x ∷ []) - 1 ≡ length xs = omega (arith, a) in
    let there : slice_get (xs ++ x ∷ []) (length (xs ++ x ∷ []) - 1) ≡ Some x =
    ap (λ k. slice_get (xs ++ x ∷ []) k) place ∙ get_last xs x in
    let here : slice_get zs (length zs - 1) ≡ Some x =
    subst (λ ws. slice_get ws (length ws - 1) ≡ Some x) (sym is) there in
    cc
