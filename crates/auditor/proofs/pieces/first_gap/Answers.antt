use Rattle.std.proofs.Common.{rules, arith, ap, length, subst, refl, List, ◌≡◌, Some}
use Rattle.std.specs.Prelude.{slice_get}
use Rattle.std.proofs.lemmas.Option.{slice_get_read}
use Rattle.causal_order.specs.declared.certificate.Piece.{Piece}
use Rattle.auditor.proofs.Tiling.{next_in_place, gap_past_last, gap_of_none}
use Rattle.auditor.proofs.pieces.first_gap.Goals as goal
use Rattle.auditor.proofs.pieces.first_gap.Goals.{then-is_empty-via-then-is_empty}
use Rattle.auditor.proofs.pieces.first_gap.Goals.{then-is_empty-via-else-is_empty+then-ne-2}

pub loop-index-preserved : goal.loop-index-preserved
loop-index-preserved c = next_in_place c.args.certificate.now c.loop-index.index c.loop-index.begin
    c.index-pieces-index.result
    (subst (λ (ps : List Piece). slice_get ps c.loop-index.index ≡ Some c.index-pieces-index.result)
    c.as_slice-pieces.ensures
    (slice_get_read c.as_slice-pieces.result.now (length c.as_slice-pieces.result.now) c.loop-index.index
    c.index-pieces-index.result refl (omega arith) c.index-pieces-index.is))
    (search rules) (search rules) c.loop-index.invariant

pub returns-then-is_empty : goal.returns-then-is_empty
returns-then-is_empty c = elim c.then-is_empty.branch [
  | then-is_empty-via-then-is_empty w ↦ gap_of_none c.args.certificate.now c.loop-index.index _ c.loop-index.begin
      (omega (arith, ap length c.as_slice-pieces.ensures)) (omega arith) (search rules) c.loop-index.invariant
  | then-is_empty-via-else-is_empty+then-ne-2 w ↦
      gap_past_last c.args.certificate.now c.loop-index.index _ c.loop-index.begin
      (omega (arith, ap length c.as_slice-pieces.ensures)) (omega arith) (search rules) c.loop-index.invariant
]
