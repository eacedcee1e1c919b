use Rattle.joined_runs.proofs.Closed.{carried, over_volumes}
use Rattle.joined_runs.proofs.SoFar.{over_snapshots}
use Rattle.joined_runs.proofs.laws.accepted_is_true_over_volumes.Goals as goal

pub returns-clause-headline : goal.returns-clause-headline
returns-clause-headline c =
    over_volumes c.joined_could_be_left.ensures.closed c.accepted_is_true.ensures

pub returns-clause-snapshots : goal.returns-clause-snapshots
returns-clause-snapshots c =
    over_snapshots c.joined_could_be_left.ensures.so_far c.snapshots_are_true.ensures.legal

pub returns-clause-every_run : goal.returns-clause-every_run
returns-clause-every_run c = carried c.joined_could_be_left.ensures.closed
