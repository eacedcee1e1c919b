use Rattle.evidence_search.proofs.Complete.{none_refused}
use Rattle.evidence_search.proofs.finding.line_search.Goals as goal

pub returns-then-not-is_shown-clause-none : goal.returns-then-not-is_shown-clause-none
returns-then-not-is_shown-clause-none g c _ =
    none_refused (g.S.Lines.journals c.args.source.now) c.args.query.now c.in_ok-certificate.certificate
    c.in_ok-certificate.ensures.claims c.in_ok-certificate.ensures.made
    (λ h. let t = c.is_shown.ensures.shown.1 h in let f = c.if-not-is_shown.true in cc)
