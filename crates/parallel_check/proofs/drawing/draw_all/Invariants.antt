use Rattle.std.proofs.Common.{◌≡◌, [], length, map}
use Rattle.std.specs.Prelude.{All}
use Rattle.parallel_check.specs.declared.drawing.IndexedVerdict.{IndexedVerdict}
use Rattle.parallel_check.specs.Drawing.{seat_of}
use Rattle.parallel_check.specs.Verdicts.{IsVerdictAt}
use Rattle.parallel_check.specs.Findings.{IsRight}
use Rattle.parallel_check.proofs.drawing.draw_all.Given as goal

abbrev pub invariant-draws : goal.invariant-draws
invariant-draws g l = record {
  table : l.seat.table_id ≡ l.word.table_id;
  view : l.seat.me.0 ≡ seat_of (length l.batch.certificates.now) 1 (map (λ (f : IndexedVerdict). f.index) l.found.items);
  slots : l.seat.me.1 ≡ [];
  right : All (IsRight (IsVerdictAt (g.S.Lines.journals l.batch.source.now) l.batch.skew l.batch.transit
      l.batch.certificates.now) (length l.batch.certificates.now)) l.found.items;
}
