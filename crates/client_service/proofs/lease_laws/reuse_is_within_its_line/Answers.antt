use Rattle.client_service.proofs.Within.{again_is_within, again_ends_before}
use Rattle.client_service.proofs.lease_laws.reuse_is_within_its_line.Goals as goal

pub returns-clause-line : goal.returns-clause-line
returns-clause-line c = again_is_within

pub returns-clause-unit : goal.returns-clause-unit
returns-clause-unit c = again_ends_before
