use Rattle.std.specs.Prelude.{length}
use Rattle.std.proofs.Common.{refl}
use Rattle.std.proofs.lemmas.Option.{slice_get_read}
use Rattle.archive_files.specs.Alike.{IsCopyOf}
use Rattle.archive_files.proofs.Copied.{one_more, all_of}
use Rattle.archive_files.proofs.copies.expect_copies.Goals as goal

pub expect_copy_of-requires-clause-volume : goal.expect_copy_of-requires-clause-volume
expect_copy_of-requires-clause-volume g c =
    let at = slice_get_read c.args.volumes.now (length c.args.volumes.now) c.loop-volume.volume-index
    c.volume-item.result refl c.loop-volume-test.true c.volume-item.is in
    c.requires.volumes c.volume-item.result (c.loop-volume.volume-index, at)

pub loop-volume-preserved : goal.loop-volume-preserved
loop-volume-preserved g c =
    let at = slice_get_read c.args.volumes.now (length c.args.volumes.now) c.loop-volume.volume-index
    c.volume-item.result refl c.loop-volume-test.true c.volume-item.is in
    one_more (IsCopyOf (g.F.JournalFiles.had c.args.files.now) c.args.shelf.now) c.args.volumes.now
    c.loop-volume.volume-index c.volume-item.result at c.loop-volume.invariant c.in_ok-expect_copy_of.ensures.same

pub returns-clause-same : goal.returns-clause-same
returns-clause-same g c =
    all_of (IsCopyOf (g.F.JournalFiles.had c.args.files.now) c.args.shelf.now) c.args.volumes.now
    c.loop-volume.volume-index c.loop-volume-test.false c.loop-volume.invariant
