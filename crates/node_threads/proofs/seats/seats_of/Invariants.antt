use Rattle.std.proofs.Common.{◌≡◌, ◌++◌, map}
use Rattle.std.specs.Vec.Iter.{into_iter_items, into_iter_len}
use Rattle.node_threads.proofs.seats.seats_of.Given as goal

abbrev pub invariant-loop-pass : goal.invariant-loop-pass
invariant-loop-pass g l = record {
  passes : map (λ seat. seat.pass) l.seats.items ++ into_iter_items l.pass-iterator
      ≡ into_iter_items l.initial.pass-iterator;
  mailboxes : map (λ seat. seat.mailbox) l.seats.items ++ into_iter_items l.mailboxes
      ≡ into_iter_items l.initial.mailboxes;
  each : into_iter_len l.pass-iterator ≡ into_iter_len l.mailboxes;
}
