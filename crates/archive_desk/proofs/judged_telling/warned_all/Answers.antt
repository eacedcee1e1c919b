use Rattle.archive_desk.proofs.Taken.{begun_all, one_more_warned, all_warned}
use Rattle.archive_desk.proofs.judged_telling.warned_all.Goals as goal

pub loop-each-init : goal.loop-each-init
loop-each-init c = begun_all c.args.names.now c.args.warnings.now c.new-out.result.items c.new-out.ensures.items

pub loop-each-preserved : goal.loop-each-preserved
loop-each-preserved c =
    one_more_warned c.args.names.now c.args.warnings.now c.loop-each.each-index c.each-item.result
    c.loop-each.out.items c.push_warned.new.out.items c.loop-each-test.true c.each-item.is c.in_ok-push_warned.ensures
    c.loop-each.invariant

pub returns : goal.returns
returns c =
    all_warned c.args.names.now c.args.warnings.now c.loop-each.each-index c.loop-each.out.items
    c.loop-each-test.false c.loop-each.invariant
