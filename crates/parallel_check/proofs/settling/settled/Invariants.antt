use Rattle.std.proofs.Common.{◌≡◌, ℕ, ◌+◌, ◌<◌, ◌≤◌, length}
use Rattle.std.specs.Prelude.{All}
use Rattle.parallel_check.specs.Counting.{times}
use Rattle.parallel_check.specs.Verdicts.{IsVerdictAt}
use Rattle.parallel_check.specs.Findings.{IsDone, Settled}
use Rattle.parallel_check.proofs.settling.settled.Given as goal

abbrev pub invariant-seats : goal.invariant-seats
invariant-seats g l = record {
  room : length l.verdicts ≡ length l.batch.certificates.now;
  table : l.mine.table_id ≡ l.word.table_id;
  limit : l.mine.me.0.limit ≡ l.word.key;
  parts : l.mine.me.0.parts + length l.done.items ≡ l.initial.mine.me.0.parts + length l.initial.done.items;
  shorter : length l.done.items ≤ length l.initial.done.items;
  done : All (IsDone (IsVerdictAt (g.S.Lines.journals l.batch.source.now) l.batch.skew l.batch.transit
      l.batch.certificates.now) (length l.batch.certificates.now) l.word.table_id) l.done.items;
  settled : Settled (IsVerdictAt (g.S.Lines.journals l.batch.source.now) l.batch.skew l.batch.transit
      l.batch.certificates.now) (length l.batch.certificates.now) l.mine.me.0.numbers l.verdicts;
  past : length l.done.items < length l.initial.done.items → (n : ℕ) × (length l.batch.certificates.now ≤ n)
      × (0 < times n l.mine.me.0.numbers);
}

abbrev pub decreases-seats : goal.decreases-seats
decreases-seats g l = length l.done.items
