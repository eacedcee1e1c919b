use Rattle.book_rules.specs.NextHead.{AreLegal}
use Rattle.attribution.proofs.Lawful.{lawful}
use Rattle.attribution.proofs.Closing.{closes_behind}
use Rattle.attribution.proofs.Snapshot.{snapshots_true, snapshots_true_of}
use Rattle.attribution.proofs.Cuts.{in_runs}
use Rattle.attribution.proofs.laws.snapshots_are_true.Goals as goal

pub returns-clause-enough : goal.returns-clause-enough
returns-clause-enough c = snapshots_true

pub returns-clause-legal : goal.returns-clause-legal
returns-clause-legal c = snapshots_true_of AreLegal lawful

pub returns-clause-in_runs : goal.returns-clause-in_runs
returns-clause-in_runs c = in_runs (snapshots_true_of AreLegal lawful)

pub returns-clause-closes : goal.returns-clause-closes
returns-clause-closes c = closes_behind
