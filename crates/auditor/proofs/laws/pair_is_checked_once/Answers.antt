use Rattle.auditor.proofs.OneAnswer.{checked_once}
use Rattle.auditor.proofs.laws.pair_is_checked_once.Goals as goal

pub returns : goal.returns
returns c = checked_once c.first_broken_is_one.ensures.legal c.first_broken_is_one.ensures.one c.one_answer.ensures
    c.placing_holds.ensures.once
