use Rattle.desk_reports.proofs.VolumeTruth.{reports_true}
use Rattle.desk_reports.proofs.laws.volume_reports_are_true.Goals as goal

pub returns : goal.returns
returns c = reports_true c.verdict_is_one.ensures.accepts c.accepted_over_spans_is_true.ensures
