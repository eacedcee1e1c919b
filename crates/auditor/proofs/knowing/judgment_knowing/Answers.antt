use Rattle.std.proofs.Common.{arith}
use Rattle.attribution.specs.declared.condition.TheConstants.{CONDITIONS}
use Rattle.auditor.proofs.Asked.{none_asked, one_asked, refused_at, all_asked}
use Rattle.auditor.proofs.knowing.judgment_knowing.Goals as goal

pub loop-condition-init : goal.loop-condition-init
loop-condition-init g c = none_asked _ _ _ _ CONDITIONS

pub returns-in-Some : goal.returns-in-Some
returns-in-Some g c = refused_at _ _ _ _ CONDITIONS c.loop-condition.condition-index _ _ c.loop-condition-test.true
    c.in-Some.ensures c.loop-condition.invariant

pub loop-condition-preserved : goal.loop-condition-preserved
loop-condition-preserved g c = one_asked _ _ _ _ CONDITIONS c.loop-condition.condition-index _
    c.loop-condition-test.true c.in_default.ensures c.loop-condition.invariant

pub returns : goal.returns
returns g c = all_asked _ _ _ _ CONDITIONS c.loop-condition.condition-index (omega arith) c.loop-condition.invariant
