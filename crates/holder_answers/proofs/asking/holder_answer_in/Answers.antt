use Rattle.std.proofs.Common.{subst}
use Rattle.attribution_desk.specs.Case.{IsCaseOf}
use Rattle.holder_answers.proofs.Cases.{open_answered, ruled_out}
use Rattle.holder_answers.proofs.asking.holder_answer_in.Goals as goal

pub returns-in-Open-clause-answer : goal.returns-in-Open-clause-answer
returns-in-Open-clause-answer c =
    open_answered c.args.primary.now c.args.secondary.now c.args.query.now c.args.settings c.args.ends
    c.in-Open.index.journals c.answer_open.result
    (subst (IsCaseOf c.args.primary.now c.args.secondary.now c.args.query.now.skew) c.in-Open.is c.requires)
    c.answer_open.ensures.asked c.answer_open.ensures.why

pub returns-in-Refused-clause-answer : goal.returns-in-Refused-clause-answer
returns-in-Refused-clause-answer c =
    ruled_out c.args.primary.now c.args.secondary.now c.args.query.now c.args.settings c.args.ends
    c.in-Refused.ruling
    (subst (IsCaseOf c.args.primary.now c.args.secondary.now c.args.query.now.skew) c.in-Refused.is c.requires)
