use Rattle.book_state.proofs.Ranges.{has_decided}
use Rattle.book_state.proofs.pool.Pool.has.Goals as goal

pub returns-then-len-self : goal.returns-then-len-self
returns-then-len-self c = has_decided _ _ _ c.requires c.len.ensures.whole (cc) c.contains.ensures
