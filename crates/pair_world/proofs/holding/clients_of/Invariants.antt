use Rattle.std.proofs.Common.{◌≡◌, ◌++◌}
use Rattle.pair_world.proofs.holding.clients_of.Given as goal

abbrev pub invariant-loop-client : goal.invariant-loop-client
invariant-loop-client l = l.clients.items ++ l.client-iterator ≡ l.found.keys
