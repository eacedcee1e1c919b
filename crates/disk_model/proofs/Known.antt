-- What is known of a folder by its last files.
use Rattle.std.proofs.Common.{◌≡◌, ℕ, zero, suc, ◌+◌, ◌-◌, ◌≤◌, List, [], ◌∷◌, ◌++◌, length, map, Some, ◌∙◌, ap, arith}
use Rattle.std.specs.List.{slice_get}
use Rattle.std.specs.Option.{option_map}
use Rattle.std.proofs.lemmas.List.{length-append, length-map}
use Rattle.std.proofs.lemmas.Option.{slice_get-map}
use Rattle.disk_model.specs.LastFiles.{AreLast}

pub as_many : {X : Type 0} (content_of : X → List ℕ) (unread : ℕ) (last : List X) (contents : List (List ℕ))
    → AreLast unread (map content_of last) contents → unread + length last ≡ length contents
as_many content_of unread last contents are =
    omega (
      arith,
      are.as_many,
      ap length are.are,
      length-append are.earlier (map content_of last),
      length-map last content_of,
    )

behind : {X : Type 0} (earlier last : List X) (place index : ℕ) → place ≡ length earlier + index
    → slice_get (earlier ++ last) place ≡ slice_get last index
behind [] last place index is = ap (slice_get last) (omega (arith, is))
behind (x ∷ earlier) last zero index is = absurd (omega (arith, is))
behind (x ∷ earlier) last (suc place) index is = behind earlier last place index (omega (arith, is))

-- a file that was read has its content
pub has_content : {X : Type 0} (content_of : X → List ℕ) (unread : ℕ) (last : List X) (contents : List (List ℕ))
    (place : ℕ) (x : X) → unread ≤ place → slice_get last (place - unread) ≡ Some x
    → AreLast unread (map content_of last) contents → slice_get contents place ≡ Some (content_of x)
has_content {X} content_of unread last contents place x within here are =
    let index = place - unread in
    ap (λ (all : List (List ℕ)). slice_get all place) are.are
    ∙ behind are.earlier (map content_of last) place index (omega (arith, are.as_many, within))
    ∙ slice_get-map content_of last index ∙ ap (option_map content_of) here
