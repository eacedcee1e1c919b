use Rattle.auditor.proofs.TextLaws.{texts_accept, one_text_verdict}
use Rattle.auditor.proofs.laws.text_verdict_is_one.Goals as goal

pub returns-clause-accepts : goal.returns-clause-accepts
returns-clause-accepts c = texts_accept c.text_gives_what_it_spells.ensures.side c.certificates_are_spelled.ensures
    c.verdict_is_one.ensures.accepts

pub returns-clause-one : goal.returns-clause-one
returns-clause-one c =
    one_text_verdict c.first_broken_is_one.ensures.legal c.first_broken_is_one.ensures.one c.one_answer.ensures
    c.placing_holds.ensures.once
    c.verdict_is_one.ensures.one
