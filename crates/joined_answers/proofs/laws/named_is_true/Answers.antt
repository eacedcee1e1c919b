use Rattle.joined_answers.proofs.Named.{named_true}
use Rattle.joined_answers.proofs.laws.named_is_true.Goals as goal

pub returns : goal.returns
returns c = named_true c.verdict_is_one.ensures.accepts c.accepted_over_spans_is_true.ensures
