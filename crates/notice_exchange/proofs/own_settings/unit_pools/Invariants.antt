use Rattle.std.specs.Prelude.{◌≡◌, map}
use Rattle.std.proofs.Common.{take}
use Rattle.notice_exchange.specs.Exchanges.{unit_pool}
use Rattle.notice_exchange.proofs.own_settings.unit_pools.Given as goal

abbrev pub invariant-loop-pool : goal.invariant-loop-pool
invariant-loop-pool l = l.units.items ≡ map unit_pool (take l.pool-index l.pools)
