use Rattle.plain_search.proofs.Collecting.{placed}
use Rattle.plain_search.proofs.Halving.{some_returns, neither_returns}
use Rattle.plain_search.proofs.releases.returning.Goals as goal

pub returns-in-Some-first_read-clause-returning : goal.returns-in-Some-first_read-clause-returning
returns-in-Some-first_read-clause-returning g c =
    let js = g.S.Lines.journals c.args.source.now in
    let found = placed js c.place_for.new.self c.args.delegation.now c.in_ok-place.place c.index-releases.result.now
    c.in_ok-place.ensures.recent c.in_ok-place.ensures.place c.index-releases.ensures in
    some_returns js c.args.delegation.now c.index-releases.result.now found.0 found.1 c.args.query.now
    (record { at = c.args.at; reading = c.in-Some.reading }) c.in-Some.ensures
    _ _ c.deref.ensures.value c.deref-in-Some.ensures.value _ _ c.first_return-primary.ensures
    c.first_return-secondary.ensures c.in-Some-first_read.release c.in-Some-first_read.ensures.found

pub returns-in-None-clause-returning : goal.returns-in-None-clause-returning
returns-in-None-clause-returning g c =
    let js = g.S.Lines.journals c.args.source.now in
    let found = placed js c.place_for.new.self c.args.delegation.now c.in_ok-place.place c.index-releases.result.now
    c.in_ok-place.ensures.recent c.in_ok-place.ensures.place c.index-releases.ensures in
    neither_returns js c.args.delegation.now c.index-releases.result.now found.0 found.1 c.args.query.now
    (record { at = c.args.at; reading = c.in-Some.reading }) c.in-Some.ensures
    _ _ c.deref.ensures.value c.deref-in-Some.ensures.value _ _ c.first_return-primary.ensures
    c.first_return-secondary.ensures c.in-None.ensures.found
