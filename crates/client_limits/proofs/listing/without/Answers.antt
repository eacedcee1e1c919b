use Rattle.std.proofs.Common.{◌++◌, ◌∷◌, [], List, Vec, Global, ap, sym, ◌∙◌}
use Rattle.prefix_range.specs.Prefix.{Prefix}
use Rattle.client_limits.proofs.Less.{passed_over, taken_over}
use Rattle.client_limits.proofs.listing.without.Goals.{then-first-address+in_ok-extend_from_slice, else-first-address}
use Rattle.client_limits.proofs.listing.without.Goals as goal

-- src/listing.rt:18:5
pub loop-unit-preserved : goal.loop-unit-preserved
loop-unit-preserved c =
    let at = c.first.ensures.value in
    elim c.if-first-address.branch [
      | then-first-address+in_ok-extend_from_slice w ↦ ap (λ (v : Vec Prefix Global). v.items) w.rest-is
          ∙ (w.in_ok-extend_from_slice.ensures.items
          ∙ (ap (λ (xs : List Prefix). xs ++ c.unit-item.result ∷ []) c.loop-unit.invariant
          ∙ sym (taken_over c.args.address c.args.units.now c.loop-unit.unit-index c.unit-item.result
          c.loop-unit-test.true c.unit-item.is (λ same. w.if-first-address.true (at ∙ same)))))
      | else-first-address w ↦ ap (λ (v : Vec Prefix Global). v.items) w.rest-is
          ∙ (c.loop-unit.invariant
          ∙ sym (passed_over c.args.address c.args.units.now c.loop-unit.unit-index c.unit-item.result
          c.loop-unit-test.true c.unit-item.is (sym at ∙ w.if-first-address.false)))
    ]
