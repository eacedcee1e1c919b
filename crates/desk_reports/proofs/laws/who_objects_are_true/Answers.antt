use Rattle.desk_reports.proofs.WhoTruth.{who_true}
use Rattle.desk_reports.proofs.laws.who_objects_are_true.Goals as goal

pub returns : goal.returns
returns c = who_true c.named_is_true.ensures c.holder_objects_are_true.ensures.said
