-- A release is added behind the last piece.
use Rattle.std.proofs.Common.{◌≡◌, List, [], ◌∷◌, ◌++◌, Some, refl, sym, ap, ◌∙◌}
use Rattle.std.specs.Prelude.{option_map}
use Rattle.text_fields.proofs.Steps.{some_is, map_some}
use Rattle.causal_order.specs.declared.certificate.Clear.{Clear}
use Rattle.causal_order.specs.declared.certificate.Piece.{Piece}
use Rattle.certificate.specs.Lines.{with_cleared}

-- the piece with one more release that does not cut it short
abbrev pub clearing : Piece → Clear → Piece
clearing p clear = record p { clear = p.clear ++ clear ∷ [] }

pub cleared_last : (front : List Piece) (p : Piece) (clear : Clear)
    → with_cleared (front ++ p ∷ []) clear ≡ Some (front ++ clearing p clear ∷ [])
unfolding with_cleared
cleared_last [] p clear = refl
cleared_last (q ∷ []) p clear = refl
cleared_last (q ∷ r ∷ front) p clear = ap (option_map (λ more. q ∷ more)) (cleared_last (r ∷ front) p clear)

-- the last piece, and those before it
pub cleared_takes : (ps qs : List Piece) (clear : Clear) → with_cleared ps clear ≡ Some qs
    → (front : List Piece) × (p : Piece) × (ps ≡ front ++ p ∷ []) × (qs ≡ front ++ clearing p clear ∷ [])
unfolding with_cleared
cleared_takes [] qs clear e = absurd cc
cleared_takes (p ∷ []) qs clear e = ([], p, refl, sym (some_is (clearing p clear ∷ []) qs e))
cleared_takes (p ∷ q ∷ ps) qs clear e =
    let m = map_some (with_cleared (q ∷ ps) clear) (λ more. p ∷ more) qs e in
    let t = cleared_takes (q ∷ ps) m.0 clear m.1 in
    (p ∷ t.0, t.1, ap (λ (xs : List Piece). p ∷ xs) t.2, sym m.2 ∙ ap (λ (xs : List Piece). p ∷ xs) t.3)
