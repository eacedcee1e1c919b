use Rattle.std.proofs.Common.{arith, ap, length}
use Rattle.attribution.specs.Acceptance.{ReasonHolds}
use Rattle.auditor.proofs.Tiling.{all_held}
use Rattle.auditor.proofs.foreign.first_unreasoned.Goals as goal

pub returns : goal.returns
returns g c =
    all_held (ReasonHolds (g.S.Lines.journals c.args.source.now) c.args.skew c.args.transit c.args.certificate.now)
    c.args.certificate.now.foreign c.loop-entry.entry-index
    (omega (arith, ap length c.as_slice-entry-items.ensures)) c.loop-entry.invariant
