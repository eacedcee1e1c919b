use Rattle.std.proofs.Common.{◌+◌, rules, arith, drop, subst, sym}
use Rattle.std.proofs.lemmas.List.{drop_all}
use Rattle.attribution.specs.FirstRefusal.{IsUncovered}
use Rattle.auditor.proofs.Least.{IsWalked}
use Rattle.auditor.proofs.Known.{next_kept, next_more, uncovered_of}
use Rattle.auditor.proofs.knowing.least_uncovered_of.Goals as goal
use Rattle.auditor.proofs.knowing.least_uncovered_of.Goals.{then-comes_first+then-is_uncovered, else-comes_first}
use Rattle.auditor.proofs.knowing.least_uncovered_of.Goals.{else-comes_first-via-then-comes_first+else-is_uncovered}
use Rattle.auditor.proofs.knowing.least_uncovered_of.Goals.{else-comes_first-via-else-comes_first}

pub loop-at-preserved : goal.loop-at-preserved
loop-at-preserved g c =
    let others = c.args.others.now in
    let P = IsUncovered (g.L.Lines.journals c.args.lines.now) c.args.certificate.now in
    elim c.if-comes_first.branch [
      | then-comes_first+then-is_uncovered w ↦
          subst (IsWalked P others (drop (c.loop-at.at-index + 1) others)) (sym w.least-is)
          (next_more P others c.loop-at.at-index _ c.loop-at-test.true c.loop-at.least
          (w.is_uncovered.ensures.0 (search rules)) (c.comes_first.ensures.0 (search rules)) c.loop-at.invariant)
      | else-comes_first w ↦
          subst (IsWalked P others (drop (c.loop-at.at-index + 1) others)) (sym w.least-is)
          (next_kept P others c.loop-at.at-index _ c.loop-at-test.true c.loop-at.least
          (elim w.else-comes_first.branch [
            | else-comes_first-via-then-comes_first+else-is_uncovered v ↦
                λ first holds. (let t = v.is_uncovered.ensures.1 holds in absurd (cc))
            | else-comes_first-via-else-comes_first v ↦
                λ first holds. (let t = c.comes_first.ensures.1 first in absurd (cc))
          ]) c.loop-at.invariant)
    ]

pub returns : goal.returns
returns g c = uncovered_of (g.L.Lines.journals c.args.lines.now) c.args.certificate.now c.args.others.now c.requires
    (drop c.loop-at.at-index c.args.others.now)
    (drop_all c.loop-at.at-index c.args.others.now (omega arith)) c.loop-at.least c.loop-at.invariant
