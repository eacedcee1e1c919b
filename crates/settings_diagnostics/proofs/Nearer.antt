-- The nearest of some keys, and of one more.
use Rattle.std.proofs.Common.{arith, ◌≡◌, ℕ, ◌+◌, ◌<◌, ◌≤◌, ◌==◌, Bool, true, false, List, length, get_or, refl, subst}
use Rattle.std.proofs.lemmas.Bool.Decides.{nat_tests}
use Rattle.std.proofs.lemmas.List.{get_or_default}
use Rattle.settings_diagnostics.specs.declared.key.Key.{Key}

-- what is so of the first, and of the next, is so of one more
upto : (P : ℕ → Type 0) (i k : ℕ) → k < i + 1 → ((j : ℕ) → j < i → P j) → P i → P k
upto P i k lt below at = choose (k == i) refl where
  choose : (t : Bool) → (k == i) ≡ t → P k
  choose true e = let here : i ≡ k = grind (arith, nat_tests) in subst P here at
  choose false e = let less : k < i = grind (arith, nat_tests) in below k less

-- the best of the first is no further than the next
pub stays : (f : Key → ℕ) (keys : List Key) (best e : Key) (i : ℕ) → i < length keys
    → ((k : ℕ) → k < i → (d : Key) → f best ≤ f (get_or keys k d)) → f best ≤ f (get_or keys i e)
    → (k : ℕ) → k < i + 1 → (d : Key) → f best ≤ f (get_or keys k d)
stays f keys best e i within first least k lt =
    upto (λ j. (d : Key) → f best ≤ f (get_or keys j d)) i k lt first
    (λ d. subst (λ x. f best ≤ f x) (get_or_default keys i e d within) least)

-- the next is nearer than the best of the first
pub goes : (f : Key → ℕ) (keys : List Key) (best e : Key) (i : ℕ) → i < length keys
    → ((k : ℕ) → k < i → (d : Key) → f best ≤ f (get_or keys k d)) → f (get_or keys i e) < f best
    → (k : ℕ) → k < i + 1 → (d : Key) → f (get_or keys i e) ≤ f (get_or keys k d)
goes f keys best e i within first less =
    stays f keys (get_or keys i e) e i within (λ k lt d. (let old = first k lt d in omega (arith, old, less)))
    (omega arith)
