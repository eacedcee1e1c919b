-- A look at sixteen octets: its marks are those of the stops among them.
use Rattle.std.proofs.Common.{◌≡◌, ◌≢◌, ℕ, ◌+◌, ◌*◌, ◌<◌, ◌≤◌, false, true, eqb, List, length, take, drop, length-take}
use Rattle.std.proofs.Common.{length-drop, arith, Bool, cond, suc, [], ◌∷◌, refl, inl, inr}
use Rattle.std.specs.Prelude.{map, not}
use Rattle.std.specs.List.{prefix_len}
use Rattle.std.proofs.lemmas.Bool.{cases_lt}
use Rattle.std.specs.Simd.Lanes.{mask_l}
use Rattle.std.proofs.lemmas.Simd.{none_from_empty_mask, trailing_mask_l, run_in_chunk_fails, run_in_chunk_stops}
use Rattle.std.specs.Int.Count.{count_trailing_zeros}
use Rattle.memchr.specs.Find.{NoneBefore, Nowhere, Passes, is_byte}

-- the marks of the octets from here on that are the stop
abbrev pub marks : List ℕ → ℕ → ℕ → ℕ
marks text from stop = mask_l (map (λ x. eqb x stop) (take 16 (drop from text)))

pub length-look : (text : List ℕ) (from : ℕ) → from + 16 ≤ length text → length (take 16 (drop from text)) ≡ 16
length-look text from room = omega (arith, length-take 16 (drop from text), length-drop from text)

pub no_mark : (text : List ℕ) (from stop : ℕ) → from + 16 ≤ length text → marks text from stop ≡ 0
    → Nowhere (Passes (is_byte stop) text) from (from + 16)
no_mark text from stop room none k low high hit = let other =
    none_from_empty_mask (λ x. eqb x stop) text from 16 0 room none k low high in cc

-- where no octet passes the test, none is marked
unmarked : (p : ℕ → Bool) (xs : List ℕ) → length xs ≤ prefix_len (λ x. not (p x)) xs → mask_l (map p xs) ≡ 0
unmarked p [] e = refl
unmarked p (x ∷ xs) e = by (p x) e (λ h. unmarked p xs h)
  where
    by : (b : Bool) → suc (length xs) ≤ cond (not b) (1 + prefix_len (λ x. not (p x)) xs) 0
        → (length xs ≤ prefix_len (λ x. not (p x)) xs → mask_l (map p xs) ≡ 0) → cond b 1 0 + 2 * mask_l (map p xs) ≡ 0
    by true e h = absurd (omega arith)
    by false e h = omega (arith, h (omega arith))

pub first_mark : (text : List ℕ) (from stop : ℕ) → from + 16 ≤ length text → marks text from stop ≢ 0
    → NoneBefore (Passes (is_byte stop) text) from (from + 16) (from + count_trailing_zeros 64 (marks text from stop))
    × Passes (is_byte stop) text (from + count_trailing_zeros 64 (marks text from stop))
first_mark text from stop room some =
    let is : ℕ → Bool = λ x. eqb x stop in
    let look = take 16 (drop from text) in
    let long : length look ≡ 16 = length-look text from room in
    let at : count_trailing_zeros 64 (marks text from stop) ≡ prefix_len (λ x. not (eqb x stop)) look =
    trailing_mask_l (λ x. eqb x stop) 64 look (omega (arith, long)) (omega (arith, some)) in
    let within : count_trailing_zeros 64 (marks text from stop) < 16 =
    elim (cases_lt (count_trailing_zeros 64 (marks text from stop)) 16) [
      | inl lt ↦ lt
      | inr le ↦ absurd (some (unmarked (λ x. eqb x stop) look (omega (arith, at, long, le))))
    ] in (
      record {
        low = omega arith;
        high = omega (arith, within);
        before = λ k low high hit. (let other =
            run_in_chunk_fails (λ x. eqb x stop) text from 16 (count_trailing_zeros 64 (marks text from stop)) 0 room
            at k low high in cc);
      },
      run_in_chunk_stops (λ x. eqb x stop) text from 16 (count_trailing_zeros 64 (marks text from stop)) 0 room at
          within,
    )
