use Rattle.std.proofs.Common.{rules}
use Rattle.std.proofs.lemmas.Slice.Eq.{slice_eq-Decides}
use Rattle.book_state.specs.contracts.pool.PoolPartialEq.TheImpl.{eq-value}
use Rattle.book_state.specs.declared.pool.Pool.{Pool}
use Rattle.server_start.proofs.setting.are_same_pools.Goals as goal

pub returns : goal.returns
returns c = slice_eq-Decides {A = Pool} {E = eq-value.it} (λ a b. search rules) _ _ c.eq.result c.eq.ensures
