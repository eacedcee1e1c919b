use Rattle.joined_evidence.proofs.Truth.{found_true}
use Rattle.joined_evidence.proofs.laws.found_is_true.Goals as goal

pub returns : goal.returns
returns c = found_true c.verdict_is_one.ensures.accepts c.accepted_over_spans_is_true.ensures
