-- Receipts whose numbers rise: no two have the same.
use Rattle.std.specs.Prelude.{◌≡◌, ◌≢◌, ℕ, zero, suc, ◌+◌, ◌-◌, ◌<◌, ◌≤◌, nat_eq, List, [], ◌∷◌, ◌++◌}
use Rattle.std.specs.Prelude.{length, slice_get, slice_index_or, get_or, Some, None, IfSome, if◌then◌else◌}
use Rattle.std.specs.List.Sorted.{IsNonDecreasingBy}
use Rattle.std.proofs.Common.{refl, ap, sym, subst, ◌∙◌, arith, inl, inr}
use Rattle.std.proofs.lemmas.Bool.{cases_lt, cases_eq}
use Rattle.std.proofs.lemmas.Option.{get_or_from_slice_get, slice_get_within}
use Rattle.std.proofs.lemmas.Bool.Decides.{nat_tests}
use Rattle.std.proofs.lemmas.Grind.{common_steps}
use Rattle.std.proofs.lemmas.List.Sorted.{IsNonDecreasingBy-from_default}
use Rattle.locked_book.specs.declared.receipt.Receipt.{Receipt}
use Rattle.locked_book.specs.Closing.{AreAbove, times_in}
use Rattle.locked_book.specs.Serving.{last_receipt}

pub number_at : List Receipt → Receipt → ℕ → ℕ
number_at rs d i = (get_or rs i d).number

-- each is above the bound
above_least : (least : ℕ) (rs : List Receipt) (d : Receipt) (i : ℕ) → AreAbove least rs → i < length rs
    → least < (get_or rs i d).number
above_least least [] d i h lt = absurd (omega arith)
above_least least (r ∷ rs) d zero h lt = h.0
above_least least (r ∷ rs) d (suc i) h lt =
    let first = h.0 in
    let rest = above_least r.number rs d i h.1 (omega arith) in
    omega arith

in_order : (least : ℕ) (rs : List Receipt) (d : Receipt) (i j : ℕ) → AreAbove least rs → i < j → j < length rs
    → (get_or rs i d).number < (get_or rs j d).number
in_order least [] d i j h lt within = absurd (omega arith)
in_order least (r ∷ rs) d i zero h lt within = absurd (omega arith)
in_order least (r ∷ rs) d zero (suc j) h lt within = above_least r.number rs d j h.1 (omega arith)
in_order least (r ∷ rs) d (suc i) (suc j) h lt within = in_order r.number rs d i j h.1 (omega arith) (omega arith)

in_order_or_same : (rs : List Receipt) (d : Receipt) (i j : ℕ) → AreAbove 0 rs → i ≤ j → j < length rs
    → (get_or rs i d).number ≤ (get_or rs j d).number
in_order_or_same rs d i j h le within = elim (cases_lt i j) [
  | inl lt ↦ let less = in_order 0 rs d i j h lt within in omega arith
  | inr at_least ↦
      let same : i ≡ j = omega arith in
      let one : (get_or rs i d).number ≡ (get_or rs j d).number = ap (λ k. (get_or rs k d).number) same in
      omega (arith, one)
]

pub rises : (rs : List Receipt) → AreAbove 0 rs → IsNonDecreasingBy (λ (r : Receipt). r.number) rs
rises [] h = λ i j d le lt. absurd (omega arith)
rises (r ∷ rs) h =
    IsNonDecreasingBy-from_default (λ (x : Receipt). x.number) (r ∷ rs) r
    (λ i j le lt. in_order_or_same (r ∷ rs) r i j h le lt)

-- ---- how many have a number

none_up_to : (least n : ℕ) (rs : List Receipt) → AreAbove least rs → n ≤ least → times_in n rs ≡ 0
none_up_to least n [] h le = refl
none_up_to least n (r ∷ rs) h le =
    let first = h.0 in
    let rest = none_up_to r.number n rs h.1 (omega arith) in
    grind (arith, common_steps, nat_tests)

-- where one of a number stands, no other does
pub one_at : (least n : ℕ) (rs : List Receipt) (i : ℕ) (r : Receipt) → AreAbove least rs → slice_get rs i ≡ Some r
    → r.number ≡ n → times_in n rs ≡ 1
one_at least n [] i r h at e = absurd (cc)
one_at least n (x ∷ rs) zero r h at e =
    let same : x ≡ r = cc in
    let rest = none_up_to x.number n rs h.1 (grind (arith, same, e)) in
    grind (arith, common_steps, nat_tests, same)
one_at least n (x ∷ rs) (suc i) r h at e =
    let rest = one_at x.number n rs i r h.1 at e in
    let above = above_at x.number rs i r h.1 at in
    grind (arith, common_steps, nat_tests)
  where
    above_at : (least : ℕ) (rs : List Receipt) (i : ℕ) (r : Receipt) → AreAbove least rs → slice_get rs i ≡ Some r
        → least < r.number
    above_at least [] i r h at = absurd (cc)
    above_at least (x ∷ rs) zero r h at = let same : x ≡ r = cc in grind (arith, same, h.0)
    above_at least (x ∷ rs) (suc i) r h at =
        let first = h.0 in
        let rest = above_at x.number rs i r h.1 at in
        omega arith

-- none has it where those before a place are below it, and the one there, if there is one, above
pub none_at : (n : ℕ) (rs : List Receipt) → ((i : ℕ) (r : Receipt) → slice_get rs i ≡ Some r → r.number ≢ n)
    → times_in n rs ≡ 0
none_at n [] h = refl
none_at n (r ∷ rs) h =
    let first = h 0 r refl in
    let rest = none_at n rs (λ i x at. h (suc i) x at) in
    grind (arith, common_steps, nat_tests)

-- what a search for the first that isn't below a number finds
module _ (rs : List Receipt) (n first : ℕ) (h : AreAbove 0 rs)
    (below : (i : ℕ) (d : Receipt) → i < first → (slice_index_or rs i d).number < n)
    (rest : (i : ℕ) (d : Receipt) → first ≤ i → i < length rs → n ≤ (slice_index_or rs i d).number) where
  other_than : (r : Receipt) → slice_get rs first ≡ Some r → r.number ≢ n → (i : ℕ) (x : Receipt)
      → slice_get rs i ≡ Some x → x.number ≢ n
  other_than r at differs i x there same =
      let read : get_or rs i x ≡ x = get_or_from_slice_get rs i x x there in
      let read_first : get_or rs first x ≡ r = get_or_from_slice_get rs first r x at in
      let within = slice_get_within rs i x there in
      elim (cases_lt i first) [
        | inl lt ↦ let b = below i x lt in absurd (omega (arith, ap (λ (y : Receipt). y.number) read, same, b))
        | inr le ↦ elim (cases_lt first i) [
          | inl lt ↦
              let o = in_order 0 rs x first i h lt within in
              let b = rest first x (omega arith) (slice_get_within rs first r at) in
              absurd (omega (arith, ap (λ (y : Receipt). y.number) read, same, o, b))
          | inr ge ↦
              let one : first ≡ i = omega arith in
              let twin : get_or rs first x ≡ get_or rs i x = ap (λ k. get_or rs k x) one in
              absurd (differs (ap (λ (y : Receipt). y.number) (sym read_first ∙ (twin ∙ read)) ∙ same))
        ]
      ]

  pub times_where_some : (r : Receipt) → slice_get rs first ≡ Some r
      → times_in n rs ≡ (if nat_eq r.number n then 1 else 0)
  times_where_some r at = elim (cases_eq r.number n) [
    | inl e ↦ let one = one_at 0 n rs first r h at e in grind (arith, nat_tests)
    | inr differs ↦ let none = none_at n rs (other_than r at differs) in grind (arith, nat_tests)
  ]

  pub times_where_none : slice_get rs first ≡ None → times_in n rs ≡ 0
  times_where_none past = none_at n rs (λ i x there same.
      let read : get_or rs i x ≡ x = get_or_from_slice_get rs i x x there in
      let within = slice_get_within rs i x there in
      elim (cases_lt i first) [
        | inl lt ↦ let b = below i x lt in absurd (omega (arith, ap (λ (y : Receipt). y.number) read, same, b))
        | inr le ↦ absurd (past_end rs first i x past le there)
      ])
    where
      past_end : (xs : List Receipt) (k i : ℕ) (x : Receipt) → slice_get xs k ≡ None → k ≤ i → slice_get xs i ≡ Some x
          → ⊥
      past_end [] k i x none le at = absurd (cc)
      past_end (y ∷ xs) zero i x none le at = absurd (cc)
      past_end (y ∷ xs) (suc k) zero x none le at = absurd (omega arith)
      past_end (y ∷ xs) (suc k) (suc i) x none le at = past_end xs k i x none (omega arith) at

-- ---- one more

above_behind : (least : ℕ) (rs : List Receipt) (r : Receipt) → AreAbove least rs → (rs ≡ [] → least < r.number)
    → ((i : ℕ) (l : Receipt) → slice_get rs i ≡ Some l → i + 1 ≡ length rs → l.number < r.number)
    → AreAbove least (rs ++ r ∷ [])
above_behind least [] r h first last = (first refl, tt)
above_behind least (x ∷ []) r h first last = (h.0, (last 0 x refl refl, tt))
above_behind least (x ∷ y ∷ rs) r h first last =
    (h.0, above_behind x.number (y ∷ rs) r h.1 (λ e. absurd (cc)) (λ i l at e. last (suc i) l at (omega (arith, e))))

pub above_more : (rs : List Receipt) (r : Receipt) → AreAbove 0 rs → 0 < r.number
    → IfSome (last_receipt rs) (λ last. last.number < r.number) → AreAbove 0 (rs ++ r ∷ [])
above_more rs r h positive last = above_behind 0 rs r h (λ _. positive) (λ i l at e.
    let place : length rs - 1 ≡ i = omega (arith, e) in
    let is : last_receipt rs ≡ Some l = ap (λ k. slice_get rs k) place ∙ at in
    subst (λ o. IfSome o (λ (x : Receipt). x.number < r.number)) is last)
