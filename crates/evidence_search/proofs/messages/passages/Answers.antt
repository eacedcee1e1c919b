use Rattle.std.proofs.Common.{refl}
use Rattle.evidence_search.proofs.Passing.{none_passed, one_passed}
use Rattle.evidence_search.proofs.messages.passages.Goals as goal

pub loop-take-init : goal.loop-take-init
loop-take-init g c = none_passed (g.L.Lines.journals c.args.lines.now) c.args.side _ _ _ c.new-passages.ensures.items

pub loop-take-preserved : goal.loop-take-preserved
loop-take-preserved g c =
    one_passed (g.L.Lines.journals c.args.lines.now) c.args.side c.loop-take.last c.loop-take.take _
    (record { send = c.in-Some.send; take = c.loop-take.take }) c.loop-take.invariant c.if-send-last.false refl
    _ c.partner.result c.in_ok-push.ensures.items c.partner.ensures c.in-Some.ensures
