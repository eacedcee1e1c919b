-- The last line that tells the partner anything, looked for from the end.
use Rattle.std.specs.Prelude.{◌≡◌, ◌<◌, ◌≤◌, ◌-◌, ℕ, Some, None, List, [], ◌∷◌, ◌++◌, refl, length}
use Rattle.std.proofs.Common.{ap, sym, ◌∙◌, take, get_or, suc, arith}
use Rattle.std.proofs.Math.Seq.{take-suc}
use Rattle.journal_lines.specs.declared.line.Line.{Line}
use Rattle.service_state.specs.Speaking.{spoken_in, or_last, spoken_by, last_spoken}

spoken-append : (last : ℕ) (xs ys : List Line) → last_spoken last (xs ++ ys) ≡ last_spoken (last_spoken last xs) ys
spoken-append last [] ys = refl
spoken-append last (x ∷ xs) ys = spoken-append (spoken_by last x) xs ys

one_more : (now : ℕ) (ls : List Line) (i : ℕ) (d : Line) → i < length ls
    → last_spoken now (take (suc i) ls) ≡ spoken_by (last_spoken now (take i ls)) (get_or ls i d)
one_more now ls i d within =
    ap (λ xs. last_spoken now xs) (take-suc ls i d within) ∙ spoken-append now (take i ls) (get_or ls i d ∷ [])

module _ (now : ℕ) (ls : List Line) (i : ℕ) (d : Line) (some : 0 < i) (within : i ≤ length ls)
    (all : last_spoken now (take i ls) ≡ last_spoken now ls) where
  one_back : last_spoken now (take i ls) ≡ spoken_by (last_spoken now (take (i - 1) ls)) (get_or ls (i - 1) d)
  one_back =
      let before : suc (i - 1) ≡ i = omega (arith, some) in
      ap (λ k. last_spoken now (take k ls)) (sym before) ∙ one_more now ls (i - 1) d (omega (arith, some, within))

  pub found : (r : ℕ) → spoken_in (get_or ls (i - 1) d).reading (get_or ls (i - 1) d).event ≡ Some r
      → r ≡ last_spoken now ls
  found r is = sym (ap (λ o. or_last (last_spoken now (take (i - 1) ls)) o) is) ∙ (sym one_back ∙ all)

  pub passed : spoken_in (get_or ls (i - 1) d).reading (get_or ls (i - 1) d).event ≡ None
      → last_spoken now (take (i - 1) ls) ≡ last_spoken now ls
  passed is = sym (ap (λ o. or_last (last_spoken now (take (i - 1) ls)) o) is) ∙ (sym one_back ∙ all)
