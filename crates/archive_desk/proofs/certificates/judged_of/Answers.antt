use Rattle.std.proofs.Common.{rules, ◌≡◌}
use Rattle.archive_desk.specs.declared.waiting.PendingState.TheVariants.{Judged as IsJudgedAs}
use Rattle.archive_desk.proofs.Taken.{one_taken, all_taken}
use Rattle.archive_desk.proofs.certificates.judged_of.Goals as goal

pub loop-one-preserved : goal.loop-one-preserved
loop-one-preserved c rest left =
    let is : c.one-item.result.pending ≡ IsJudgedAs c.in-Judged.judged = search rules in
    one_taken c.args.waiting.now c.loop-one.one-index c.one-item.result c.in-Judged.judged c.loop-one.all.items
    c.push.new.self.items rest c.loop-one-test.true c.one-item.is is c.in_ok-push.ensures.items c.loop-one.invariant left

pub returns : goal.returns
returns c =
    all_taken c.args.waiting.now c.loop-one.one-index c.loop-one.all.items c.loop-one-test.false c.loop-one.invariant
