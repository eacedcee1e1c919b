use Rattle.link_auth.proofs.CompareLaws.{Compared}
use Rattle.link_auth.proofs.compare.equal_in_constant_time.Given as goal

abbrev pub invariant-loop-i : goal.invariant-loop-i
invariant-loop-i g l = Compared l.one l.other l.difference l.i
