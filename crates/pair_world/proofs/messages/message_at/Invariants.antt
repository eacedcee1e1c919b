use Rattle.std.proofs.Common.{drop}
use Rattle.pair_world.proofs.Numbers.{IsRest}
use Rattle.pair_world.proofs.messages.message_at.Given as goal

abbrev pub invariant-loop-line : goal.invariant-loop-line
invariant-loop-line l = IsRest l.lines l.number (drop l.line-index l.lines) l.left
