use Rattle.clock_watch.proofs.WatchLaws.{never_set, is_seen}
use Rattle.clock_watch.proofs.laws.what_is_set_is_seen.Goals as goal

pub returns-clause-left : goal.returns-clause-left
returns-clause-left c = never_set

pub returns-clause-set : goal.returns-clause-set
returns-clause-set c = is_seen
