use Rattle.std.proofs.Common.{sym, subst, refl, List}
use Rattle.archive_desk.specs.declared.judging.ArchiveJudgement.{ArchiveJudgement}
use Rattle.archive_desk.specs.CommandOutputs.{Said, said_of}
use Rattle.archive_desk.specs.Certificates.{AreSaid}
use Rattle.archive_desk.proofs.Dropping.{drop_end}
use Rattle.archive_desk.proofs.Taken.{one_said}
use Rattle.archive_desk.proofs.judged_telling.tell_all.Goals as goal

pub loop-judged-init : goal.loop-judged-init
loop-judged-init c after h =
    subst (λ (s : Said). AreSaid c.args.names.now c.args.all.now s after) c.noting-told.ensures h

pub loop-judged-preserved : goal.loop-judged-preserved
loop-judged-preserved c after h =
    c.loop-judged.invariant after
    (one_said c.args.names.now c.args.all.now c.loop-judged.judged-index c.judged-item.result
    (said_of c.loop-judged.told) _ after c.loop-judged-test.true c.judged-item.is c.in_ok-tell_judged.ensures h)

pub returns : goal.returns
returns c =
    c.loop-judged.invariant (said_of c.loop-judged.told)
    (subst (λ (js : List ArchiveJudgement). AreSaid c.args.names.now js (said_of c.loop-judged.told)
    (said_of c.loop-judged.told)) (sym (drop_end c.args.all.now c.loop-judged.judged-index c.loop-judged-test.false)) refl)
