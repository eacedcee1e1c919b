use Rattle.std.proofs.Common.{ℕ, ◌<◌, get_or}
use Rattle.book_state.specs.declared.pool.Pool.{Pool}
use Rattle.book_state.specs.Places.{IsPool}
use Rattle.server_settings.proofs.settings.are_pools.Given as goal

abbrev pub invariant-loop-pool : goal.invariant-loop-pool
invariant-loop-pool l = (k : ℕ) → k < l.pool-index → (d : Pool) → IsPool (get_or l.pools k d)
