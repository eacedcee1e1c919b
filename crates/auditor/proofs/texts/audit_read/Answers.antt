use Rattle.auditor.proofs.TextVerdicts.{accepted_parsed}
use Rattle.auditor.proofs.texts.audit_read.Goals as goal

pub returns-clause-headline : goal.returns-clause-headline
returns-clause-headline c accepted = accepted_parsed c.certificates_are_spelled.ensures c.args.a c.args.b
    c.args.certificate.now c.args.skew c.args.transit c.verdict_on_parsed.result accepted c.verdict_on_parsed.ensures
