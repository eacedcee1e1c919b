use Rattle.std.proofs.Common.{arith}
use Rattle.prefix_range.proofs.Rows.{product_fits, with_fits}
use Rattle.prefix_range.proofs.row.Row.with.Goals as goal

pub overflow_mul-result : goal.overflow_mul-result
overflow_mul-result c =
    omega (arith, product_fits c.self.inside.count c.self.inside.address c.self.invariant (omega arith))

pub overflow_add-result-2 : goal.overflow_add-result-2
overflow_add-result-2 c = omega (
  arith,
  with_fits c.self.inside.count c.self.inside.address c.args.group c.self.invariant (omega arith) (omega arith),
)
