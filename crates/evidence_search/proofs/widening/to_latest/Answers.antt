use Rattle.std.proofs.Common.{ℕ, ◌≡◌, arith, refl, sym, inl, subst, ◌+◌}
use Rattle.evidence_search.specs.Claim.{between, IsNotTold}
use Rattle.evidence_search.proofs.Widened.{none_past}
use Rattle.evidence_search.proofs.widening.to_latest.Goals as goal

pub loop-alloc-init : goal.loop-alloc-init
loop-alloc-init g c = record {
  round = c.requires.round;
  from_is = refl;
  within = c.last_shown-high.ensures.least;
  none = inl (none_past (g.S.Lines.journals c.args.source.now) c.args.query.now c.args.found.from
      (c.last_shown-high.result + 1) (c.last_shown-high.ensures.last (c.last_shown-high.result + 1) (omega arith)));
}

pub returns-clause-latest : goal.returns-clause-latest
returns-clause-latest g c =
    let js = g.S.Lines.journals c.args.source.now in
    let q = c.args.query.now in
    let h = c.loop-alloc.invariant in
    let to = c.milliseconds-in-loop-alloc.ensures.value in
    let high = c.milliseconds-in-loop-alloc-2.ensures.value in
    let past = c.loop-alloc-test.false in
    let within = h.within in
    let same : c.loop-alloc.high ≡ c.loop-alloc.found.to = omega arith in
    subst (λ (from : ℕ). IsNotTold js (between q from (c.loop-alloc.found.to + 1))) (sym h.from_is)
    (subst (λ (n : ℕ). IsNotTold js (between q c.args.found.from (n + 1))) same h.none)
