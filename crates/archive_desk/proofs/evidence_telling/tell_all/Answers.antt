use Rattle.std.proofs.Common.{◌∙◌, ap, sym, subst, refl, List}
use Rattle.archive_desk.specs.declared.stretches.FoundStretch.{FoundStretch}
use Rattle.archive_desk.specs.CommandOutputs.{Said, said_of, noted_first}
use Rattle.archive_desk.specs.Telling.{AreSaid}
use Rattle.archive_desk.proofs.Dropping.{drop_end}
use Rattle.archive_desk.proofs.Spans.{one_said}
use Rattle.archive_desk.proofs.evidence_telling.tell_all.Goals as goal

pub loop-found-init : goal.loop-found-init
loop-found-init c after h =
    subst (λ (s : Said). AreSaid c.args.names.now c.args.stretches.now s after)
    (c.noting-told.ensures ∙ ap noted_first c.new.ensures.items) h

pub loop-found-preserved : goal.loop-found-preserved
loop-found-preserved c after h =
    c.loop-found.invariant after
    (one_said c.args.names.now c.args.stretches.now c.loop-found.found-index c.found-item.result
    (said_of c.loop-found.told) _ after c.loop-found-test.true c.found-item.is c.in_ok-tell_found.ensures h)

pub returns : goal.returns
returns c =
    c.loop-found.invariant (said_of c.loop-found.told)
    (subst (λ (fs : List FoundStretch). AreSaid c.args.names.now fs (said_of c.loop-found.told)
    (said_of c.loop-found.told)) (sym (drop_end c.args.stretches.now c.loop-found.found-index c.loop-found-test.false)) refl)
