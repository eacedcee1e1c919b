use Rattle.std.proofs.Common.{subst, get_or, refl, sym}
use Rattle.std.proofs.lemmas.Option.{slice_get-get_or}
use Rattle.evidence_report.proofs.InOrder.{is_first_missing, one_shared, all_shared}
use Rattle.evidence_report.proofs.told_releases.first_missing.Goals as goal

pub returns-then-not-stands_at : goal.returns-then-not-stands_at
returns-then-not-stands_at c =
    is_first_missing c.args.refs.now c.args.those.now c.requires.rising c.requires.those_rising c.requires.some
    c.loop-index.index _ (slice_get-get_or c.args.refs.now c.loop-index.index _ c.loop-index-test.true)
    (λ e. absurd (let t = c.if-not-stands_at.ensures.1 e in cc)) c.loop-index.invariant

pub loop-index-preserved : goal.loop-index-preserved
loop-index-preserved c =
    one_shared c.args.refs.now c.args.those.now c.loop-index.index _
    (slice_get-get_or c.args.refs.now c.loop-index.index _ c.loop-index-test.true)
    (c.if-not-stands_at.ensures.0 refl) c.loop-index.invariant

pub returns : goal.returns
returns c = all_shared c.args.refs.now c.args.those.now c.loop-index.index c.loop-index-test.false c.loop-index.invariant
