use Rattle.link_auth.proofs.HmacLaws.{Combined}
use Rattle.link_auth.proofs.coder.with_pad.Given as goal

abbrev pub invariant-loop-i : goal.invariant-loop-i
invariant-loop-i l = Combined l.pad l.block l.combined l.i
