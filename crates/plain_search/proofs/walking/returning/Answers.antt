use Rattle.plain_search.proofs.Kept.{not_returned, all_passed}
use Rattle.plain_search.proofs.walking.returning.Goals as goal

pub loop-release-preserved : goal.loop-release-preserved
loop-release-preserved g c = not_returned _ _ _ _ _ _ _ c.in-Some.ensures (λ h. let t = c.is_returned_by.ensures.1 h in
    absurd (cc)) c.loop-release.invariant

pub returns : goal.returns
returns g c = all_passed _ _ _ _ _ c.in_default.ensures c.loop-release.invariant
