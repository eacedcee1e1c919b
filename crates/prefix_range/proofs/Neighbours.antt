-- The first two colons that are neighbours.
use Rattle.std.proofs.Common.{◌≡◌, ◌≢◌, ℕ, zero, suc, ◌+◌, ◌<◌, ◌≤◌, true, false, List, [], ◌∷◌, length, get_or, take}
use Rattle.std.proofs.Common.{drop, Some, None, refl, ap, subst, ◌∙◌, arith, eqb, ◌&&◌}
use Rattle.std.proofs.lemmas.Bool.{eq-eqb, eqb-true, and_parts, false_from_ne_true}
use Rattle.prefix_range.specs.Parsing.{begins, cut}

-- no octet before this one is a colon with a colon behind it up to here
pub record NoneBefore (text : List ℕ) (next : ℕ) : Type 0 where
  pub none : (k : ℕ) → k + 1 < next → get_or text k 0 ≡ 58 → get_or text (k + 1) 0 ≢ 58

begins_is : (text : List ℕ) → begins 58 text ≡ true → (0 < length text) × (get_or text 0 0 ≡ 58)
begins_is [] e = absurd cc
begins_is (b ∷ text) e = (omega arith, eqb-true b 58 e)

-- none at the front
not_here : (b : ℕ) (text : List ℕ) → (b ≡ 58 → get_or text 0 0 ≢ 58) → (eqb b 58 && begins 58 text) ≡ false
not_here b text h = false_from_ne_true _ (λ e. let p = and_parts (eqb b 58) (begins 58 text) e in
    h (eqb-true b 58 p.0) (begins_is text p.1).1)

behind : (b : ℕ) (text : List ℕ) (next : ℕ) → NoneBefore (b ∷ text) (suc next) → NoneBefore text next
behind b text next h = record {
  none = λ k lt here there.
      let more : suc k + 1 ≡ suc (k + 1) = omega arith in
      let at : get_or (b ∷ text) (suc k + 1) 0 ≡ get_or text (k + 1) 0 = ap (λ (n : ℕ). get_or (b ∷ text) n 0) more in
      h.none (suc k) (omega arith) here (at ∙ there);
}

cut_here : (text : List ℕ) (i : ℕ) → suc i < length text → NoneBefore text (suc i) → get_or text i 0 ≡ 58
    → get_or text (suc i) 0 ≡ 58 → cut text ≡ Some (take i text, drop (suc (suc i)) text)
unfolding cut
cut_here [] i lt h here there = absurd (omega arith)
cut_here (b ∷ []) i lt h here there = absurd (omega arith)
cut_here (b ∷ c ∷ text) zero lt h here there = rw (eq-eqb b 58 here, eq-eqb c 58 there) refl
cut_here (b ∷ c ∷ text) (suc i) lt h here there =
    let no = not_here b (c ∷ text) (λ e f. h.none 0 (omega arith) e f) in
    let rest = cut_here (c ∷ text) i (omega arith) (behind b (c ∷ text) (suc i) h) here there in
    rw (no, rest) refl

pub cut_at : (text : List ℕ) (i next : ℕ) → next ≡ suc i → next < length text → NoneBefore text next
    → get_or text i 0 ≡ 58 → get_or text next 0 ≡ 58
    → (i + 2 ≤ length text) × (cut text ≡ Some (take i text, drop (i + 2) text))
cut_at text i next e lt h here there =
    let two : suc (suc i) ≡ i + 2 = omega arith in
    let short : suc i < length text = omega arith in (
      omega arith,
      cut_here text i short (subst (λ (n : ℕ). NoneBefore text n) e h) here
          (subst (λ (n : ℕ). get_or text n 0 ≡ 58) e there)
          ∙ ap (λ (n : ℕ). Some (take i text, drop n text)) two,
    )

pub cut_past : (text : List ℕ) (next : ℕ) → length text ≤ next → NoneBefore text next → cut text ≡ None
unfolding cut
cut_past [] next le h = refl
cut_past (b ∷ text) zero le h = absurd (omega arith)
cut_past (b ∷ []) (suc next) le h =
    let no = not_here b [] (λ e f. omega arith) in
    rw no refl
cut_past (b ∷ c ∷ text) (suc next) le h =
    let no = not_here b (c ∷ text) (λ e f. h.none 0 (omega arith) e f) in
    let rest = cut_past (c ∷ text) next (omega arith) (behind b (c ∷ text) next h) in
    rw (no, rest) refl
