-- Lists, one behind another.
use Rattle.std.specs.Prelude.{◌≡◌, ℕ, zero, suc, ◌+◌, ◌-◌, ◌<◌, ◌≤◌, List, [], ◌∷◌, ◌++◌, length, slice_get}
use Rattle.std.proofs.Common.{refl, ap, ◌∙◌, drop, arith, length-append}

pub drop_front : {X : Type 0} (n : ℕ) (xs ys : List X) → n ≤ length xs → drop n (xs ++ ys) ≡ drop n xs ++ ys
drop_front zero xs ys h = refl
drop_front (suc n) [] ys h = absurd (omega arith)
drop_front (suc n) (x ∷ xs) ys h = drop_front n xs ys (omega arith)

pub get_behind : {X : Type 0} (xs ys : List X) (i : ℕ) → slice_get (xs ++ ys) (length xs + i) ≡ slice_get ys i
get_behind [] ys i = let same : 0 + i ≡ i = omega arith in ap (λ k. slice_get ys k) same
get_behind (x ∷ xs) ys i =
    let place : suc (length xs) + i ≡ suc (length xs + i) = omega arith in
    ap (λ k. slice_get (x ∷ (xs ++ ys)) k) place ∙ get_behind xs ys i

-- the last of two lists is that of the second, where that has one
pub last_behind : {X : Type 0} (xs ys : List X) → 0 < length ys
    → slice_get (xs ++ ys) (length (xs ++ ys) - 1) ≡ slice_get ys (length ys - 1)
last_behind xs ys some =
    let all = length-append xs ys in
    let place : length (xs ++ ys) - 1 ≡ length xs + (length ys - 1) = omega (arith, all, some) in
    ap (λ k. slice_get (xs ++ ys) k) place ∙ get_behind xs ys (length ys - 1)
