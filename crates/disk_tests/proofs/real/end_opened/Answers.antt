use Rattle.std.proofs.Common.{length, ap, arith}
use Rattle.disk_tests.proofs.Fronts.{closed_in_front}
use Rattle.disk_tests.proofs.real.end_opened.Goals as goal

pub end_volume-requires-clause-lines : goal.end_volume-requires-clause-lines
end_volume-requires-clause-lines c =
    let lines = ap length c.journal.ensures.lines in
    closed_in_front _ c.args.book c.close.new.book _ (record {
      settled = c.in-Ok.ensures.settled;
      begun = omega arith;
      within = omega (arith, lines);
    }) c.in_ok-close.ensures
