use Rattle.std.proofs.Common.{ℕ, min, sym, ◌∙◌, ap, subst}
use Rattle.plain_search.proofs.Kept.{IsKept, kept_before, kept_cut, kept_all}
use Rattle.plain_search.proofs.walking.kept_limit.Goals as goal

pub loop-release-preserved-in-Some-cutting_reading : goal.loop-release-preserved-in-Some-cutting_reading
loop-release-preserved-in-Some-cutting_reading g c =
    subst (λ (n : ℕ). IsKept (g.S.Lines.journals c.args.source.now) c.args.skew c.args.candidate.now
    c.of_lease-delegation.result c.args.limit
    (g.S.LineSource.returned c.args.source.now c.of_lease-delegation.result c.next_release.new.walk) n)
    (sym (c.min-kept.ensures ∙ ap (min c.loop-release.kept) c.milliseconds.ensures.value))
    (kept_cut _ _ c.args.candidate.now _ _ _ _ c.in-Some.release _ c.in-Some-cutting_reading.reading c.in-Some.ensures
    c.in-Some-cutting_reading.ensures.0 c.in-Some-cutting_reading.ensures.1 c.loop-release.invariant)

pub loop-release-preserved : goal.loop-release-preserved
loop-release-preserved g c = kept_before _ _ c.args.candidate.now _ _ _ _ c.in-Some.release _ c.in-Some.ensures
    c.in_default-cutting_reading.ensures c.loop-release.invariant

pub returns : goal.returns
returns g c = kept_all _ _ c.args.candidate.now _ _ _ _ c.in_default.ensures c.of_lease-delegation.ensures
    c.loop-release.invariant
