-- What the first cut of a text lacks.
use Rattle.std.proofs.Common.{◌≡◌, ◌≢◌, refl, ap, subst, inl, inr, ℕ, List, [], ◌∷◌}
use Rattle.std.proofs.lemmas.Bool.{eq-eqb, ne_eqb, cases_eq}
use Rattle.text_fields.specs.Cuts.{split, in_front, Lacks}

abbrev first : List (List ℕ) → List ℕ
first [] = []
first (cut ∷ cuts) = cut

in_front_lacks : (other b : ℕ) (cuts : List (List ℕ)) → b ≢ other → Lacks other (first cuts) → Lacks other (first (in_front b cuts))
in_front_lacks other b [] ne h = (ne, tt)
in_front_lacks other b (cut ∷ cuts) ne h = (ne, h)

lacks_stop : (stop : ℕ) (text : List ℕ) → Lacks stop (first (split stop text))
unfolding split
lacks_stop stop [] = tt
lacks_stop stop (b ∷ text) =
    elim (cases_eq b stop) [
      | inl same ↦ rw (eq-eqb b stop same) tt
      | inr ne ↦ rw (ne_eqb b stop ne) (in_front_lacks stop b (split stop text) ne (lacks_stop stop text))
    ]

lacks_other : (stop other : ℕ) (text : List ℕ) → Lacks other text → Lacks other (first (split stop text))
unfolding split
lacks_other stop other [] h = tt
lacks_other stop other (b ∷ text) h =
    elim (cases_eq b stop) [
      | inl same ↦ rw (eq-eqb b stop same) tt
      | inr ne ↦ rw (ne_eqb b stop ne) (in_front_lacks other b (split stop text) h.0 (lacks_other stop other text h.1))
    ]

-- the first cut lacks the stop
pub first_lacks : (stop : ℕ) (text cut : List ℕ) (cuts : List (List ℕ)) → split stop text ≡ cut ∷ cuts → Lacks stop cut
first_lacks stop text cut cuts e = subst (λ (c : List ℕ). Lacks stop c) (ap first e) (lacks_stop stop text)

-- and what the text lacks
pub first_cut_lacks : (stop other : ℕ) (text cut : List ℕ) (cuts : List (List ℕ)) → split stop text ≡ cut ∷ cuts
    → Lacks other text → Lacks other cut
first_cut_lacks stop other text cut cuts e h =
    subst (λ (c : List ℕ). Lacks other c) (ap first e) (lacks_other stop other text h)
