use Rattle.disk_model.proofs.Within.{within_an_append, within_a_cut, within_a_sync}
use Rattle.disk_model.proofs.laws.left_within_a_call.Goals as goal

pub returns-clause-append : goal.returns-clause-append
returns-clause-append c = within_an_append

pub returns-clause-cut : goal.returns-clause-cut
returns-clause-cut c = within_a_cut

pub returns-clause-sync : goal.returns-clause-sync
returns-clause-sync c = within_a_sync
