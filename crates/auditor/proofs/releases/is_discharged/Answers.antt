use Rattle.auditor.proofs.ShortCuts.{discharged_by_naming}
use Rattle.auditor.proofs.releases.is_discharged.Goals as goal

pub returns : goal.returns
returns g c = discharged_by_naming (g.L.Lines.journals c.args.lines.now) c.args.skew c.args.piece.now c.args.release
    c.naming.result.now c.one_clears.result c.naming.ensures c.one_clears.ensures
