use Rattle.evidence_report.proofs.Granting.{ends_by_told, ends_nothing}
use Rattle.evidence_report.proofs.outside.is_given_back.Goals as goal

pub returns-in-Some : goal.returns-in-Some
returns-in-Some g c = ends_by_told (g.L.Lines.journals c.args.lines.now) c.args.at c.args.release c.in-Some.told _
    c.in-Some.ensures c.gives_back.ensures

pub returns-in-None : goal.returns-in-None
returns-in-None g c = ends_nothing (g.L.Lines.journals c.args.lines.now) c.args.at c.args.release c.in-None.ensures
