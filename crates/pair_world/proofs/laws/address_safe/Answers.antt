use Rattle.pair_world.proofs.Results.{address_safe, lease_safe}
use Rattle.pair_world.proofs.OneNow.{one_holder_now}
use Rattle.pair_world.proofs.laws.address_safe.Goals as goal

pub returns-clause-clients : goal.returns-clause-clients
returns-clause-clients c = address_safe

pub returns-clause-bindings : goal.returns-clause-bindings
returns-clause-bindings c = lease_safe

pub returns-clause-now : goal.returns-clause-now
returns-clause-now c = one_holder_now
