use Rattle.std.proofs.Common.{refl}
use Rattle.plain_search.proofs.Collecting.{placed}
use Rattle.plain_search.proofs.Halving.{both_keep}
use Rattle.plain_search.proofs.releases.kept_limit.Goals as goal

pub returns-in-Some-clause-kept : goal.returns-in-Some-clause-kept
returns-in-Some-clause-kept g c least =
    let js = g.S.Lines.journals c.args.source.now in
    let found = placed js c.place_for.new.self c.of_lease-delegation.result c.in_ok-place.place
    c.index-releases.result.now c.in_ok-place.ensures.recent c.in_ok-place.ensures.place c.index-releases.ensures in
    both_keep js c.of_lease-delegation.result c.index-releases.result.now found.0 found.1 c.args.skew least
    (record { at = c.args.candidate.now.grant; reading = c.in-Some.reading }) c.args.candidate.now refl
    c.of_lease-delegation.ensures c.in-Some.ensures
    _ _ c.deref.ensures.value c.deref-in-Some.ensures.value c.args.limit c.kept_by-kept.result c.kept_by.result
    (c.kept_by-kept.ensures least) (c.kept_by.ensures least)
