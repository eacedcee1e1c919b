use Rattle.std.proofs.Common.{arith}
use Rattle.prefix_range.proofs.Offsets.{grows, next_group, last_group}
use Rattle.prefix_range.proofs.canonical.address_of.Goals as goal

pub overflow_mul-address : goal.overflow_mul-address
overflow_mul-address c = omega (arith, grows _ _ _ 0 c.loop-i.invariant (omega arith) (omega arith))

pub overflow_add-address : goal.overflow_add-address
overflow_add-address c = omega (arith, grows _ _ _ c.in_ok-group.group c.loop-i.invariant (omega arith) (omega arith))

pub loop-i-preserved : goal.loop-i-preserved
loop-i-preserved c =
    rw c.from.ensures (next_group _ _ _ _ c.requires (omega arith) c.loop-i.invariant
    (omega arith) c.in_ok-group.ensures c.if-text-i-ne58.false)

pub returns : goal.returns
returns c = rw c.from-2.ensures (last_group _ _ _ _ c.requires (omega arith) c.loop-i.invariant
    (omega arith) c.in_ok-group-2.ensures)
