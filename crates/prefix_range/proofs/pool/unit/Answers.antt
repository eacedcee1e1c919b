use Rattle.std.proofs.Common.{arith}
use Rattle.prefix_range.proofs.Units.{unit_bounds, unit_found}
use Rattle.prefix_range.proofs.pool.unit.Goals as goal
use Rattle.prefix_range.proofs.pool.unit.Goals.{then-length-len-via-then-length-len}
use Rattle.prefix_range.proofs.pool.unit.Goals.{then-length-len-via-else-length-len+then-length-gt128}

pub returns-then-length-len-clause-none : goal.returns-then-length-len-clause-none
returns-then-length-len-clause-none c u good is =
    let b = unit_bounds _ _ _ u c.len.ensures.whole good is in
    elim c.then-length-len.branch [
      | then-length-len-via-then-length-len w ↦ absurd (omega arith)
      | then-length-len-via-else-length-len+then-length-gt128 w ↦ absurd (omega arith)
    ]

pub returns-clause-found : goal.returns-clause-found
returns-clause-found c =
    (unit_found _ _ c.args.index c.in_ok-address.address _ _ c.len.ensures.whole (omega arith) c.if-length-gt128.false
    (omega arith) (omega arith) c.new.ensures.ok c.ok.ensures.value).0

pub returns-clause-none : goal.returns-clause-none
returns-clause-none c =
    (unit_found _ _ c.args.index c.in_ok-address.address _ _ c.len.ensures.whole (omega arith) c.if-length-gt128.false
    (omega arith) (omega arith) c.new.ensures.ok c.ok.ensures.value).1
