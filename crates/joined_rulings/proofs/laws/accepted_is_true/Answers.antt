use Rattle.joined_rulings.proofs.Truth.{accepted_true, given_true}
use Rattle.joined_rulings.proofs.laws.accepted_is_true.Goals as goal

pub returns-clause-accepted : goal.returns-clause-accepted
returns-clause-accepted c = accepted_true c.verdict_is_one.ensures.accepts c.accepted_over_spans_is_true.ensures

pub returns-clause-given : goal.returns-clause-given
returns-clause-given c = given_true c.verdict_is_one.ensures.accepts c.accepted_over_spans_is_true.ensures
