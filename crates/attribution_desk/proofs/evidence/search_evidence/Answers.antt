use Rattle.std.specs.Prelude.{MatchOption}
use Rattle.std.proofs.Common.{subst}
use Rattle.attribution_desk.specs.Find.{IsReadAgain, IsOverLimits}
use Rattle.attribution_desk.proofs.Again.{finding}
use Rattle.attribution_desk.proofs.evidence.search_evidence.Goals as goal

pub returns-in-Some-clause-found : goal.returns-in-Some-clause-found
returns-in-Some-clause-found g c =
    let js = g.S.Lines.journals c.args.source.now in
    let q = c.args.query.now in
    let h = subst (λ o. MatchOption o (IsOverLimits js q.skew q.transit c.in-Ok.found)
    (IsReadAgain js q.skew q.transit c.in-Ok.found)) c.in-Some.is c.in_ok-read-in-Ok.ensures.again in
    finding js q c.in-Ok.found c.in-Some.certificate c.in-Ok.ensures.claims h
