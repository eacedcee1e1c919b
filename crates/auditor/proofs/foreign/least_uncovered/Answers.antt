use Rattle.std.proofs.Common.{rules}
use Rattle.auditor.proofs.Least.{one_kept, one_more}
use Rattle.auditor.proofs.Others.{uncovered_found}
use Rattle.auditor.proofs.foreign.least_uncovered.Goals as goal
use Rattle.auditor.proofs.foreign.least_uncovered.Goals.{else-comes_first-via-then-comes_first+else-is_uncovered}
use Rattle.auditor.proofs.foreign.least_uncovered.Goals.{else-comes_first-via-else-comes_first}

pub loop-at-preserved-then-is_uncovered : goal.loop-at-preserved-then-is_uncovered
loop-at-preserved-then-is_uncovered g c =
    one_more _ _ _ _ _ _ c.in-Some.ensures (search rules) (search rules) c.loop-at.invariant

pub loop-at-preserved : goal.loop-at-preserved
loop-at-preserved g c = one_kept _ _ _ _ _ _ c.in-Some.ensures (elim c.else-comes_first.branch [
  | else-comes_first-via-then-comes_first+else-is_uncovered w ↦
      λ first holds. (let t = w.is_uncovered.ensures.1 holds in absurd (cc))
  | else-comes_first-via-else-comes_first w ↦ λ first holds. (let t = c.comes_first.ensures.1 first in absurd (cc))
]) c.loop-at.invariant

pub returns : goal.returns
returns g c = uncovered_found _ c.args.certificate.now _ c.overlaps-walk.ensures.exact _ c.in_default.ensures
    c.loop-at.least c.loop-at.invariant
