use Rattle.client_service.proofs.Within.{none_again}
use Rattle.client_service.proofs.lease_laws.nothing_is_told_again.Goals as goal

pub returns : goal.returns
returns c = none_again
