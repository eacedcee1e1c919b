use Rattle.std.proofs.Common.{length}
use Rattle.link_auth.specs.Parsing.{Written}
use Rattle.link_auth.proofs.writer.put_records.Given as goal

abbrev pub invariant-loop-rest : goal.invariant-loop-rest
invariant-loop-rest l = Written l.key l.fn.number l.octets l.out.items l.number l.rest

abbrev pub decreases-loop-rest : goal.decreases-loop-rest
decreases-loop-rest l = length l.rest
