use Rattle.std.proofs.Common.{arith, sym, ◌∙◌, ap, subst}
use Rattle.plain_search.specs.declared.recent.ReleaseCache.{ReleaseCache}
use Rattle.plain_search.specs.Collected.{IsRecent}
use Rattle.plain_search.proofs.Collecting.{none_recent, more_recent, last_place}
use Rattle.plain_search.proofs.recent.ReleaseCache.collect.Goals as goal
use Rattle.plain_search.proofs.recent.ReleaseCache.collect.Goals.{then-len-ge-MOST_KEPT, else-len-ge-MOST_KEPT}

pub returns-clause-recent : goal.returns-clause-recent
returns-clause-recent g c =
    let js = g.S.Lines.journals c.args.source.now in
    let before : IsRecent js c.if-len-ge-MOST_KEPT.self = elim c.if-len-ge-MOST_KEPT.branch [
      | then-len-ge-MOST_KEPT w ↦ none_recent js c.if-len-ge-MOST_KEPT.self
          (ap (λ (r : ReleaseCache). r.collected.items) w.self-is ∙ w.new.ensures.items)
      | else-len-ge-MOST_KEPT w ↦ subst (IsRecent js) (sym w.self-is) c.requires
    ] in
    more_recent js _ _ c.in_ok-releases.releases c.in_ok-push.ensures.items before c.in_ok-releases.ensures.releases

pub returns-clause-place : goal.returns-clause-place
returns-clause-place g c =
    last_place (record { collected = c.push.new.self }) c.args.delegation.now _ c.in_ok-releases.releases
    c.len-place.result c.in_ok-push.ensures.items (let e = c.len-place.ensures in
    let ok = c.if-len-ge-MOST_KEPT.self.collected.ok.0 in omega arith) c.in_ok-releases.ensures.delegation
