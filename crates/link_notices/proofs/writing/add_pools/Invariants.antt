use Rattle.std.proofs.Common.{◌≡◌, ◌++◌, drop}
use Rattle.std.specs.List.{flat_map}
use Rattle.text_fields.specs.Cuts.{behind}
use Rattle.link_notices.specs.Spelling.{pool_words}
use Rattle.link_notices.proofs.writing.add_pools.Given as goal

abbrev pub invariant-loop-pool : goal.invariant-loop-pool
invariant-loop-pool l = l.out.items ++ behind 32 (flat_map pool_words (drop l.pool-index l.pools))
    ≡ l.fn.out.items ++ behind 32 (flat_map pool_words l.pools)
