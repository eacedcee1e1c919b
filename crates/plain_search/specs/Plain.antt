-- Plain certificates. Their chains are single lines, and they order two lines by their journal or by their clocks
-- alone, never by the partners' messages.
use Rattle.std.specs.Prelude.{◌≡◌, ◌⊎◌, List, [], ◌∷◌, All}
use Rattle.causal_order.specs.declared.reference.Ref.{Ref}
use Rattle.causal_order.specs.declared.order.Precedes.{Precedes}
use Rattle.causal_order.specs.declared.order.Precedes.TheVariants.{Chain, Clock}
use Rattle.causal_order.specs.declared.certificate.Certificate.{Certificate}
use Rattle.causal_order.specs.declared.certificate.Piece.{Piece}
use Rattle.causal_order.specs.declared.certificate.Clear.{Clear}
use Rattle.causal_order.specs.declared.certificate.ClearReason.{ClearReason}
use Rattle.causal_order.specs.declared.certificate.ClearReason.TheVariants.{Before, After}
use Rattle.causal_order.specs.declared.certificate.Foreign.{Foreign}
use Rattle.causal_order.specs.declared.certificate.Reason.{Reason}
use Rattle.causal_order.specs.declared.certificate.Reason.TheVariants.{Early, Late, Released}

abbrev pub IsOneLine : List Ref → Type 0
IsOneLine chain = (r : Ref) × (chain ≡ r ∷ [])

-- two lines of one journal
abbrev pub IsTwoLines : List Ref → Type 0
IsTwoLines chain = (r : Ref) × (s : Ref) × (chain ≡ r ∷ s ∷ []) × (s.side ≡ r.side)

abbrev pub IsPlainOrder : Precedes → Type 0
IsPlainOrder (Chain chain) = IsOneLine chain ⊎ IsTwoLines chain
IsPlainOrder (Clock first second) = IsOneLine first × IsOneLine second

abbrev pub IsPlainWhy : ClearReason → Type 0
IsPlainWhy (Before order) = IsPlainOrder order
IsPlainWhy (After chain) = IsOneLine chain

abbrev pub IsPlainClear : Clear → Type 0
IsPlainClear k = IsPlainWhy k.why

pub record IsPlainPiece (p : Piece) : Type 0 where
  pub latest : IsOneLine p.latest
  pub earliest : IsOneLine p.earliest
  pub clear : All IsPlainClear p.clear

abbrev pub IsPlainReason : Reason → Type 0
IsPlainReason (Early chain) = IsOneLine chain
IsPlainReason (Late chain) = IsOneLine chain
IsPlainReason (Released release order latest) = IsPlainOrder order × IsOneLine latest

abbrev pub IsPlainForeign : Foreign → Type 0
IsPlainForeign f = IsPlainReason f.reason

pub record IsPlain (c : Certificate) : Type 0 where
  pub pieces : All IsPlainPiece c.pieces
  pub foreign : All IsPlainForeign c.foreign
