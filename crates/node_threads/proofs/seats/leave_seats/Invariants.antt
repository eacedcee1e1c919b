use Rattle.std.proofs.Common.{◌≡◌, ◌≤◌, ◌+◌, ◌++◌, map, vec_len, vec_capacity}
use Rattle.std.specs.Vec.Iter.{into_iter_items, into_iter_len}
use Rattle.node_threads.specs.Seats.{received_after}
use Rattle.node_threads.proofs.seats.leave_seats.Given as goal

abbrev pub invariant-loop-seat : goal.invariant-loop-seat
invariant-loop-seat g l = record {
  passes : l.passes.items ++ map (λ seat. seat.pass) (into_iter_items l.seat-iterator)
      ≡ l.initial.passes.items ++ map (λ seat. seat.pass) (into_iter_items l.initial.seat-iterator);
  received : received_after l.received (map (λ seat. seat.received) (into_iter_items l.seat-iterator))
      ≡ received_after l.initial.received (map (λ seat. seat.received) (into_iter_items l.initial.seat-iterator));
  room : vec_len l.initial.passes + into_iter_len l.initial.seat-iterator ≤ vec_capacity l.initial.passes
      → vec_len l.passes + into_iter_len l.seat-iterator ≤ vec_capacity l.passes;
}
