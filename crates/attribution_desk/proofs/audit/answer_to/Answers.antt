use Rattle.std.proofs.Common.{rules}
use Rattle.attribution_desk.proofs.Headline.{true_of_answer}
use Rattle.attribution_desk.proofs.audit.answer_to.Goals as goal

pub returns-clause-headline : goal.returns-clause-headline
returns-clause-headline g c = true_of_answer c.certificates_are_spelled.ensures c.args.input.primary
    c.args.input.secondary c.args.input.rest.items c.args.skew c.args.transit c.new.result (search rules)
