use Rattle.std.specs.Prelude.{◌+◌, List}
use Rattle.std.proofs.Common.{arith, sym, subst}
use Rattle.causal_order.specs.declared.reference.Ref.{Ref}
use Rattle.evidence_report.proofs.Rising.{AreOnceSoFar, one_pushed, one_kept, all_once}
use Rattle.evidence_report.proofs.line_order.each_once.Goals as goal
use Rattle.evidence_report.proofs.line_order.each_once.Goals.{then-is_behind+in_ok-push, else-is_behind}

pub loop-at-preserved : goal.loop-at-preserved
loop-at-preserved c =
    let so_far : List Ref → Type 0 = λ once. AreOnceSoFar c.args.refs.now once (c.loop-at.at-index + 1) in
    elim c.if-is_behind.branch [
      | then-is_behind+in_ok-push w ↦ rw w.once-is (subst so_far (sym w.in_ok-push.ensures.items)
          (one_pushed c.args.refs.now c.loop-at.once.items c.loop-at.at-index _ c.loop-at-test.true
          c.is_behind.ensures.small (rw (sym c.deref.ensures.value) (c.is_behind.ensures.behind.0 w.if-is_behind.true))
          c.loop-at.invariant))
      | else-is_behind w ↦ rw w.once-is
          (one_kept c.args.refs.now c.loop-at.once.items c.loop-at.at-index _ c.requires c.loop-at-test.true
          c.is_behind.ensures.small
          (λ behind. (let t = c.is_behind.ensures.behind.1 (rw c.deref.ensures.value behind) in absurd (cc)))
          c.loop-at.invariant)
    ]

pub returns : goal.returns
returns c = all_once _ _ c.loop-at.at-index (omega arith) c.loop-at.invariant
