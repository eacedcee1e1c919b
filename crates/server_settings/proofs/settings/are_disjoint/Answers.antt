use Rattle.std.proofs.Common.{arith}
use Rattle.server_settings.proofs.Pools.{all_disjoint, next_disjoint, next_apart}
use Rattle.server_settings.proofs.settings.are_disjoint.Goals as goal

pub loop-index-init : goal.loop-index-init
loop-index-init c = all_disjoint _

pub returns-then-not-are_apart : goal.returns-then-not-are_apart
returns-then-not-are_apart c = (
  λ e. absurd (cc),
  λ d. (let yes =
      c.are_apart.ensures.1 (next_apart _ c.loop-index.index c.index-pools-index.result
      (omega arith) c.index-pools-index.is c.loop-index.invariant d) in let no = c.if-not-are_apart.true in
      absurd (cc)),
)

pub loop-index-preserved : goal.loop-index-preserved
loop-index-preserved c = next_disjoint _ c.loop-index.index c.index-pools-index.result
    (omega arith) c.index-pools-index.is c.loop-index.invariant (c.are_apart.ensures.0 c.if-not-are_apart.false)
