use Rattle.evidence_search.proofs.Complete.{shown_by}
use Rattle.evidence_search.proofs.finding.is_shown.Goals as goal

pub returns-clause-shown : goal.returns-clause-shown
returns-clause-shown g c = shown_by (g.S.Lines.journals c.args.source.now) c.args.query.now c.args.certificate.now
    c.audit.result c.is_accepted.result c.audit.ensures.verdict c.is_accepted.ensures
