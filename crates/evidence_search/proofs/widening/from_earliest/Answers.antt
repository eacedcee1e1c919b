use Rattle.std.proofs.Common.{◌≡◌, ℕ, arith, subst}
use Rattle.evidence_search.specs.Claim.{between, IsNotTold}
use Rattle.evidence_search.proofs.widening.from_earliest.Goals as goal

pub loop-low-preserved : goal.loop-low-preserved
loop-low-preserved g c =
    let from = c.moment-from.result in
    let half = c.moment-from.ensures in
    let old = c.milliseconds-in-loop-low.ensures.value in
    let value = c.milliseconds-low.ensures.value in record {
      round = c.loop-low.invariant.round;
      to = c.loop-low.invariant.to;
      within = (let test = c.loop-low-test.true in let first = c.milliseconds.ensures.value in omega arith);
      none = λ m is. (
          let same : from ≡ m = omega arith in
          subst (λ (n : ℕ). IsNotTold (g.S.Lines.journals c.args.source.now)
          (between c.args.query.now n c.args.query.now.to)) same (rw c.in-None.is at c.in_ok-told.ensures));
    }
