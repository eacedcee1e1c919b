use Rattle.plain_search.proofs.Collecting.{RiseTo}
use Rattle.plain_search.proofs.collected.are_rising.Given as goal

abbrev pub invariant-loop-index : goal.invariant-loop-index
invariant-loop-index l = RiseTo l.lines l.index
