use Rattle.book_state.proofs.PlaceLaws.{IsWalked}
use Rattle.book_state.proofs.units.place_in.Given as goal

abbrev pub invariant-loop-pool : goal.invariant-loop-pool
invariant-loop-pool l = IsWalked l.pools l.prefix l.pool-index l.offset
