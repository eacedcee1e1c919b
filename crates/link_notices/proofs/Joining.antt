-- Words joined, and pools one behind another.
use Rattle.std.proofs.Common.{◌≡◌, ◌∙◌, ℕ, List, ◌∷◌, ◌++◌, sym, ap, append_assoc}
use Rattle.std.specs.List.{flat_map}
use Rattle.std.proofs.lemmas.List.Concat.{flat_map-cons}
use Rattle.std.proofs.lemmas.Grind.{flat_map-append}
use Rattle.text_fields.specs.Cuts.{joined, behind}
use Rattle.text_fields.proofs.CutLaws.{joined-behind}
use Rattle.link_notices.specs.declared.notice.UnitPool.{UnitPool}
use Rattle.link_notices.specs.Spelling.{pool_words}

pub joined_is : (old name : List ℕ) (words : List (List ℕ))
    → (old ++ name) ++ behind 32 words ≡ old ++ joined 32 (name ∷ words)
joined_is old name words = append_assoc old name (behind 32 words)
    ∙ ap (λ (w : List ℕ). old ++ w) (sym (joined-behind 32 name words))

behind_append : (a b : List (List ℕ)) → behind 32 (a ++ b) ≡ behind 32 a ++ behind 32 b
behind_append a b = flat_map-append (λ (cut : List ℕ). 32 ∷ cut) a b

-- one pool more in front of those that are left
pub pool_more : (out : List ℕ) (p : UnitPool) (pools : List UnitPool)
    → out ++ behind 32 (flat_map pool_words (p ∷ pools))
    ≡ (out ++ behind 32 (pool_words p)) ++ behind 32 (flat_map pool_words pools)
pool_more out p pools =
    ap (λ (w : List (List ℕ)). out ++ behind 32 w) (flat_map-cons pool_words p pools)
    ∙ ap (λ (w : List ℕ). out ++ w) (behind_append (pool_words p) (flat_map pool_words pools))
    ∙ sym (append_assoc out (behind 32 (pool_words p)) (behind 32 (flat_map pool_words pools)))
