use Rattle.std.proofs.Common.{rules}
use Rattle.auditor.proofs.Least.{one_kept, one_more, next_given}
use Rattle.auditor.proofs.ShortCuts.{cutting_found}
use Rattle.auditor.proofs.releases.least_cutting.Goals as goal
use Rattle.auditor.proofs.releases.least_cutting.Goals.{else-comes_first-via-then-comes_first+else-not-is_discharged}
use Rattle.auditor.proofs.releases.least_cutting.Goals.{else-comes_first-via-else-comes_first}

pub loop-at-preserved-then-not-is_discharged : goal.loop-at-preserved-then-not-is_discharged
loop-at-preserved-then-not-is_discharged g c =
    let back = c.releases-walk.ensures.exact.only c.in-Some.at
    (next_given _ _ _ _ _ _ c.in-Some.ensures c.loop-at.invariant) in
    one_more _ _ _ _ _ _ c.in-Some.ensures (back, λ d. (let t = c.is_discharged.ensures.1 d in absurd (search rules)))
    (search rules) c.loop-at.invariant

pub loop-at-preserved : goal.loop-at-preserved
loop-at-preserved g c = one_kept _ _ _ _ _ _ c.in-Some.ensures (elim c.else-comes_first.branch [
  | else-comes_first-via-then-comes_first+else-not-is_discharged w ↦
      λ first cuts. cuts.1 (w.is_discharged.ensures.0 (search rules))
  | else-comes_first-via-else-comes_first w ↦ λ first cuts. (let t = c.comes_first.ensures.1 first in absurd (cc))
]) c.loop-at.invariant

pub returns : goal.returns
returns g c = cutting_found _ c.args.skew c.args.piece.now c.args.delegation.now _ c.releases-walk.ensures.exact _
    c.in_default.ensures c.loop-at.least c.loop-at.invariant
