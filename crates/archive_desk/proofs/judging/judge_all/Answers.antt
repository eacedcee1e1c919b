use Rattle.std.proofs.Common.{sym, subst}
use Rattle.archive_desk.specs.Waiting.{AreWaiting}
use Rattle.archive_desk.proofs.Pendings.{placed_wait}
use Rattle.archive_desk.proofs.judging.judge_all.Goals as goal

pub judge_each-requires-after_bounds : goal.judge_each-requires-after_bounds
judge_each-requires-after_bounds g c κs within =
    let had = g.F.JournalFiles.had c.args.files.now in
    let b = c.args.bounds.now in
    subst (AreWaiting had c.args.archive.now b.skew b.transit) (sym c.deref_mut.ensures.value)
    (placed_wait had c.args.archive.now b.skew b.transit c.in_ok-waiting.waiting.items c.in_ok-waiting.ensures.placed)
