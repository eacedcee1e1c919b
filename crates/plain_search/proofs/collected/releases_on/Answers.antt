use Rattle.plain_search.proofs.Collecting.{not_found, one_found, all_found, unread}
use Rattle.plain_search.proofs.collected.releases_on.Goals as goal

pub loop-at-preserved-then-not-is_on : goal.loop-at-preserved-then-not-is_on
loop-at-preserved-then-not-is_on g c =
    not_found (g.S.Lines.journals c.args.source.now) c.args.delegation.now c.args.side _ _ c.in-Some.at _
    c.in-Some.ensures (λ back on. let t = c.is_on.ensures.1 on in absurd (cc)) c.loop-at.invariant

pub loop-at-preserved-in-Continue-1 : goal.loop-at-preserved-in-Continue-1
loop-at-preserved-in-Continue-1 g c =
    one_found (g.S.Lines.journals c.args.source.now) c.args.delegation.now c.args.side _ _ _ _
    (record { at = c.in-Some.at; reading = c.in-Some-reading_at.reading }) c.in-Some.ensures
    c.in-Some-reading_at.ensures c.in_ok-push.ensures.items c.loop-at.invariant

pub loop-at-preserved : goal.loop-at-preserved
loop-at-preserved g c =
    let js = g.S.Lines.journals c.args.source.now in
    not_found js c.args.delegation.now c.args.side _ _ c.in-Some.at _ c.in-Some.ensures
    (λ back on. unread js c.args.delegation.now c.args.side c.in-Some.at c.in_default-reading_at.ensures back)
    c.loop-at.invariant

pub returns : goal.returns
returns g c = all_found (g.S.Lines.journals c.args.source.now) c.args.delegation.now c.args.side _ _
    c.in_default.ensures c.loop-at.invariant
