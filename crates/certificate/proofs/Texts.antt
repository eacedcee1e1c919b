-- The text of a certificate as it is written, word by word and line by line.
use Rattle.std.proofs.Common.{◌≡◌, ℕ, List, ◌∷◌, ◌++◌, ap, ◌∙◌}
use Rattle.std.specs.Prelude.{map, codes}
use Rattle.std.proofs.lemmas.List.Concat.{flat_map-cons}
use Rattle.std.proofs.lemmas.Grind.{flat_map-append}
use Rattle.text_fields.specs.Cuts.{behind}
use Rattle.text_fields.proofs.CutLaws.{joined-behind}
use Rattle.causal_order.specs.declared.reference.Ref.{Ref}
use Rattle.causal_order.specs.declared.order.Precedes.{Precedes}
use Rattle.causal_order.specs.declared.certificate.Clear.{Clear}
use Rattle.causal_order.specs.declared.certificate.Foreign.{Foreign}
use Rattle.causal_order.specs.declared.certificate.Reason.TheVariants.{Released}
use Rattle.certificate.specs.Spelling.{ref_text, chain_text, order_words, why_words, clear_words, latest_words}
use Rattle.certificate.specs.Spelling.{reason_words, foreign_words, line_text}

-- the first reference, and each other one behind a >
pub chain_spelled : (first : Ref) (links : List Ref) → chain_text (first ∷ links) ≡ ref_text first
    ++ behind 62 (map ref_text links)
chain_spelled first links = joined-behind 62 (ref_text first) (map ref_text links)

-- a released grant's words up to the chain from the release
abbrev pub release_words : Ref → Precedes → List (List ℕ)
release_words release order = codes "released" ∷ ref_text release ∷ order_words order

pub released_spelled : (release : Ref) (order : Precedes) (latest : List Ref)
    → behind 32 (reason_words (Released release order latest)) ≡ behind 32 (release_words release order)
    ++ behind 32 (latest_words latest)
released_spelled release order latest =
    flat_map-append (λ (p : List ℕ). 32 ∷ p) (release_words release order) (latest_words latest)

-- a line as its keyword and the words behind it
pub clear_spelled : (c : Clear) → line_text (clear_words c) ≡ codes "clear"
    ++ (32 ∷ ref_text c.release ++ behind 32 (why_words c.why))
clear_spelled c =
    joined-behind 32 (codes "clear") (ref_text c.release ∷ why_words c.why)
    ∙ ap (λ (t : List ℕ). codes "clear" ++ t)
    (flat_map-cons (λ (p : List ℕ). 32 ∷ p) (ref_text c.release) (why_words c.why))

pub foreign_spelled : (f : Foreign) → line_text (foreign_words f) ≡ codes "foreign"
    ++ (32 ∷ ref_text f.grant ++ behind 32 (reason_words f.reason))
foreign_spelled f =
    joined-behind 32 (codes "foreign") (ref_text f.grant ∷ reason_words f.reason)
    ∙ ap (λ (t : List ℕ). codes "foreign" ++ t)
    (flat_map-cons (λ (p : List ℕ). 32 ∷ p) (ref_text f.grant) (reason_words f.reason))
