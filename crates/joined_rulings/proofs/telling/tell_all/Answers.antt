use Rattle.std.proofs.Common.{sym, subst, refl, List}
use Rattle.archive_desk.proofs.Dropping.{drop_end}
use Rattle.archive_desk.specs.CommandOutputs.{Said, said_of}
use Rattle.joined_rulings.specs.declared.widest.CertificateRuling.{CertificateRuling}
use Rattle.joined_rulings.specs.Telling.{AreRulingsSaid}
use Rattle.joined_rulings.proofs.Listed.{one_said}
use Rattle.joined_rulings.proofs.telling.tell_all.Goals as goal

pub loop-ruling-init : goal.loop-ruling-init
loop-ruling-init c after h =
    subst (λ (s : Said). AreRulingsSaid c.args.names.now c.args.all.now s after) c.noting-told.ensures h

pub loop-ruling-preserved : goal.loop-ruling-preserved
loop-ruling-preserved c after h =
    c.loop-ruling.invariant after
    (one_said c.args.names.now c.args.all.now c.loop-ruling.ruling-index c.ruling-item.result
    (said_of c.loop-ruling.told) _ after c.loop-ruling-test.true c.ruling-item.is c.in_ok-told.ensures h)

pub returns : goal.returns
returns c =
    c.loop-ruling.invariant (said_of c.loop-ruling.told)
    (subst (λ (rs : List CertificateRuling). AreRulingsSaid c.args.names.now rs (said_of c.loop-ruling.told)
    (said_of c.loop-ruling.told)) (sym (drop_end c.args.all.now c.loop-ruling.ruling-index
    c.loop-ruling-test.false)) refl)
