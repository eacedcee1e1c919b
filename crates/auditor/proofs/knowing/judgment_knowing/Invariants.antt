use Rattle.attribution.specs.declared.condition.TheConstants.{CONDITIONS}
use Rattle.auditor.proofs.Asked.{AreAsked}
use Rattle.auditor.proofs.knowing.judgment_knowing.Given as goal

abbrev pub invariant-loop-condition : goal.invariant-loop-condition
invariant-loop-condition g l = AreAsked (g.S.Lines.journals l.source) l.skew l.transit l.certificate CONDITIONS
    l.condition-index
