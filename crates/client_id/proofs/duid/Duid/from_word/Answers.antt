use Rattle.std.proofs.Common.{arith}
use Rattle.client_id.proofs.TextLaws.{no_digits, read_octets}
use Rattle.client_id.proofs.duid.Duid.from_word.Goals as goal

pub invariant_of-result : goal.invariant_of-result
invariant_of-result c = (read_octets c.args.word.now _ (omega arith) (omega arith) c.in-Some.ensures).0

pub returns-in-Some : goal.returns-in-Some
returns-in-Some c = (read_octets c.args.word.now _ (omega arith) (omega arith) c.in-Some.ensures).1

pub returns-in-None : goal.returns-in-None
returns-in-None c = no_digits _ c.in-None.ensures
