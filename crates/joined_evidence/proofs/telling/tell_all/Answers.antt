use Rattle.std.proofs.Common.{sym, subst, refl, List}
use Rattle.archive_desk.proofs.Dropping.{drop_end}
use Rattle.archive_desk.specs.CommandOutputs.{Said, said_of}
use Rattle.joined_evidence.specs.declared.stretches.SpannedStretch.{SpannedStretch}
use Rattle.joined_evidence.specs.Telling.{AreStretchesSaid}
use Rattle.joined_evidence.proofs.Listed.{one_said}
use Rattle.joined_evidence.proofs.telling.tell_all.Goals as goal

pub loop-stretch-init : goal.loop-stretch-init
loop-stretch-init c after h =
    subst (λ (s : Said). AreStretchesSaid c.args.names.now c.args.all.now s after) c.noting-told.ensures h

pub loop-stretch-preserved : goal.loop-stretch-preserved
loop-stretch-preserved c after h =
    c.loop-stretch.invariant after
    (one_said c.args.names.now c.args.all.now c.loop-stretch.stretch-index c.stretch-item.result
    (said_of c.loop-stretch.told) _ after c.loop-stretch-test.true c.stretch-item.is c.in_ok-told.ensures h)

pub returns : goal.returns
returns c =
    c.loop-stretch.invariant (said_of c.loop-stretch.told)
    (subst (λ (rs : List SpannedStretch). AreStretchesSaid c.args.names.now rs (said_of c.loop-stretch.told)
    (said_of c.loop-stretch.told))
    (sym (drop_end c.args.all.now c.loop-stretch.stretch-index c.loop-stretch-test.false)) refl)
