use Rattle.std.proofs.Common.{drop}
use Rattle.pair_world.proofs.Numbers.{IsSentLater}
use Rattle.pair_world.proofs.messages.was_sent.Given as goal

abbrev pub invariant-loop-line : goal.invariant-loop-line
invariant-loop-line l = IsSentLater l.lines l.message (drop l.line-index l.lines)
