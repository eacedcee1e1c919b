-- Joining cuts and cutting them undo each other.
use Rattle.std.proofs.Common.{◌≡◌, ◌≢◌, ℕ, List, [], ◌∷◌, ◌++◌, refl, sym, ap, ◌∙◌, append_assoc, append-nil, inl, inr}
use Rattle.std.proofs.lemmas.Bool.{eq-eqb, ne_eqb, cases_eq}
use Rattle.std.proofs.lemmas.List.Concat.{flat_map-cons}
use Rattle.text_fields.specs.Cuts.{joined, behind, with_stops, in_front, split, Lacks, AllLack}
use Rattle.text_fields.proofs.Cutting.{split_some}

-- a cut without stops, the stop, and what follows
pub split-cons : (stop : ℕ) (cut text : List ℕ) → Lacks stop cut
    → split stop (cut ++ stop ∷ text) ≡ cut ∷ split stop text
unfolding split
split-cons stop [] text h = rw (eq-eqb stop stop refl) refl
split-cons stop (b ∷ cut) text h = rw (ne_eqb b stop h.0, split-cons stop cut text h.1) refl

pub split-last : (stop : ℕ) (cut : List ℕ) → Lacks stop cut → split stop cut ≡ cut ∷ []
unfolding split
split-last stop [] h = refl
split-last stop (b ∷ cut) h = rw (ne_eqb b stop h.0, split-last stop cut h.1) refl

-- cuts that lack the stop come back
pub split-joined : (stop : ℕ) (cut : List ℕ) (cuts : List (List ℕ)) → AllLack stop (cut ∷ cuts)
    → split stop (joined stop (cut ∷ cuts)) ≡ cut ∷ cuts
split-joined stop cut [] h = split-last stop cut h.0
split-joined stop cut (next ∷ cuts) h = split-cons stop cut (joined stop (next ∷ cuts)) h.0
    ∙ ap (λ (ps : List (List ℕ)). cut ∷ ps) (split-joined stop next cuts h.1)

pub split-ended : (stop : ℕ) (cuts : List (List ℕ)) → AllLack stop cuts
    → split stop (with_stops stop cuts) ≡ cuts ++ [] ∷ []
unfolding split
split-ended stop [] h = refl
split-ended stop (cut ∷ cuts) h =
    ap (split stop) (flat_map-cons (λ (p : List ℕ). p ++ stop ∷ []) cut cuts
    ∙ append_assoc cut (stop ∷ []) (with_stops stop cuts))
    ∙ (split-cons stop cut (with_stops stop cuts) h.0
    ∙ ap (λ (ps : List (List ℕ)). cut ∷ ps) (split-ended stop cuts h.1))

-- each text is its cuts, joined
joined-in_front : (stop b : ℕ) (cuts : List (List ℕ)) → joined stop (in_front b cuts) ≡ b ∷ joined stop cuts
joined-in_front stop b [] = refl
joined-in_front stop b (cut ∷ []) = refl
joined-in_front stop b (cut ∷ next ∷ cuts) = refl

joined-empty : (stop : ℕ) (cuts : List (List ℕ)) → cuts ≢ [] → joined stop ([] ∷ cuts) ≡ stop ∷ joined stop cuts
joined-empty stop [] some = absurd (some refl)
joined-empty stop (cut ∷ cuts) some = refl

pub joined-split : (stop : ℕ) (text : List ℕ) → joined stop (split stop text) ≡ text
unfolding split
joined-split stop [] = refl
joined-split stop (b ∷ text) =
    elim (cases_eq b stop) [
      | inl same ↦ rw (eq-eqb b stop same) (joined-empty stop (split stop text) (split_some stop text)
          ∙ (ap (λ (t : List ℕ). stop ∷ t) (joined-split stop text) ∙ ap (λ (x : ℕ). x ∷ text) (sym same)))
      | inr other ↦ rw (ne_eqb b stop other) (joined-in_front stop b (split stop text)
          ∙ ap (λ (t : List ℕ). b ∷ t) (joined-split stop text))
    ]

-- and a list of cuts whose last is empty is that of ended cuts
pub joined-ended : (stop : ℕ) (cuts : List (List ℕ)) → joined stop (cuts ++ [] ∷ []) ≡ with_stops stop cuts
joined-ended stop [] = refl
joined-ended stop (cut ∷ []) = sym (append-nil (cut ++ stop ∷ []))
joined-ended stop (cut ∷ next ∷ cuts) =
    ap (λ (t : List ℕ). cut ++ stop ∷ t) (joined-ended stop (next ∷ cuts))
    ∙ (sym (append_assoc cut (stop ∷ []) (with_stops stop (next ∷ cuts)))
    ∙ sym (flat_map-cons (λ (p : List ℕ). p ++ stop ∷ []) cut (next ∷ cuts)))

-- the first cut, and each other one behind a stop
pub joined-behind : (stop : ℕ) (cut : List ℕ) (cuts : List (List ℕ))
    → joined stop (cut ∷ cuts) ≡ cut ++ behind stop cuts
joined-behind stop cut [] = sym (append-nil cut)
joined-behind stop cut (next ∷ cuts) =
    ap (λ (t : List ℕ). cut ++ stop ∷ t) (joined-behind stop next cuts)
    ∙ ap (λ (t : List ℕ). cut ++ t) (sym (flat_map-cons (λ (p : List ℕ). stop ∷ p) next cuts))

-- cuts that lack an octet, side by side
pub Lacks-append : (stop : ℕ) (a b : List ℕ) → Lacks stop a → Lacks stop b → Lacks stop (a ++ b)
Lacks-append stop [] b ha hb = hb
Lacks-append stop (x ∷ a) b ha hb = (ha.0, Lacks-append stop a b ha.1 hb)

-- and joined by another octet
pub Lacks-joined : (stop other : ℕ) (cuts : List (List ℕ)) → AllLack stop cuts → other ≢ stop
    → Lacks stop (joined other cuts)
Lacks-joined stop other [] h ne = tt
Lacks-joined stop other (cut ∷ []) h ne = h.0
Lacks-joined stop other (cut ∷ next ∷ cuts) h ne =
    Lacks-append stop cut (other ∷ joined other (next ∷ cuts)) h.0 (ne, Lacks-joined stop other (next ∷ cuts) h.1 ne)
