use Rattle.archive_desk.specs.declared.waiting.PendingCertificate.{PendingCertificate}
use Rattle.std.proofs.Common.{refl}
use Rattle.archive_desk.proofs.Pendings.{texts_more, placed_more}
use Rattle.archive_desk.proofs.waiting.waiting_of.Goals as goal

pub loop-claim-preserved : goal.loop-claim-preserved
loop-claim-preserved c =
    let w : PendingCertificate = record { text = c.claim-item.result.text; pending = c.in_ok-pending.pending } in (
      texts_more c.args.claims.now c.loop-claim.claim-index c.claim-item.result c.loop-claim.waiting.items
          c.extend_from_slice.new.self.items w c.loop-claim-test.true c.claim-item.is refl
          c.in_ok-extend_from_slice.ensures.items c.loop-claim.invariant.0,
      placed_more c.args.archive.now c.args.bounds.now.skew c.args.bounds.now.transit c.loop-claim.waiting.items
          c.extend_from_slice.new.self.items w c.in_ok-extend_from_slice.ensures.items c.in_ok-pending.ensures
          c.loop-claim.invariant.1,
    )
