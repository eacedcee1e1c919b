use Rattle.std.proofs.Common.{sym, ◌∙◌}
use Rattle.book_state.proofs.Ranges.{has_decided}
use Rattle.unit_index.proofs.pool_tree.building.has.Goals as goal

pub returns-then-len-pool : goal.returns-then-len-pool
returns-then-len-pool c = has_decided c.args.pool.now c.args.prefix.now c.contains.result c.requires
    c.len.ensures.whole (sym c.len.ensures.value ∙ c.if-len-pool.true) c.contains.ensures
