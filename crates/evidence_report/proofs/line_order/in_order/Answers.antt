use Rattle.std.specs.Prelude.{List}
use Rattle.std.specs.List.Sorted.{IsNonDecreasingBy}
use Rattle.std.proofs.Common.{rules, sym, subst}
use Rattle.std.proofs.lemmas.List.Sorted.{IsNonDecreasingBy-from_sort_by_key}
use Rattle.causal_order.specs.declared.reference.Ref.{Ref}
use Rattle.causal_order.specs.WrittenOrder.{place_of}
use Rattle.evidence_report.specs.Lines.{AreOnce}
use Rattle.evidence_report.proofs.Rising.{once_of_sorted}
use Rattle.evidence_report.proofs.line_order.in_order.Goals as goal

pub each_once-requires : goal.each_once-requires
each_once-requires c = subst (IsNonDecreasingBy place_of) (sym c.deref.ensures.value)
    (IsNonDecreasingBy-from_sort_by_key place_of _ c.in_ok-sort_by_key.ensures.sorted (λ a r q k. search rules))

pub returns : goal.returns
returns c = once_of_sorted _ _ _ c.in_ok-sort_by_key.ensures.permutation
    (subst (λ (refs : List Ref). AreOnce refs c.in_ok-once.once.items) c.deref.ensures.value c.in_ok-once.ensures)
