use Rattle.std.proofs.Common.{◌≡◌, ◌-◌, [], length}
use Rattle.std.specs.Prelude.{All}
use Rattle.parallel_check.specs.Drawing.{seat_of, IsFresh}
use Rattle.parallel_check.proofs.drawing.seats_for.Given as goal

abbrev pub invariant-loop-i : goal.invariant-loop-i
invariant-loop-i l = record {
  table : l.mine.table_id ≡ l.word.table_id;
  view : l.mine.me ≡ (seat_of l.word.key (64 - l._i) [], []);
  count : length l.seats.items ≡ l._i;
  fresh : All (λ t. (t.table_id ≡ l.word.table_id) × IsFresh l.word.key t.me) l.seats.items;
}
