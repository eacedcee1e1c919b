use Rattle.std.proofs.Common.{◌≡◌, length}
use Rattle.node_run.proofs.running.Node.mailboxes.Given as goal

abbrev pub invariant-loop : goal.invariant-loop
invariant-loop g l = length l.mailboxes.items ≡ l.counter
