use Rattle.std.proofs.Common.{length}
use Rattle.link_auth.specs.Parsing.{Taken}
use Rattle.link_auth.proofs.reader.take_records.Given as goal

abbrev pub invariant-loop-piece : goal.invariant-loop-piece
invariant-loop-piece l = Taken l.key l.fn.cursor l.octets.items l.cursor

abbrev pub decreases-loop-piece : goal.decreases-loop-piece
decreases-loop-piece l = length l.cursor.rest
