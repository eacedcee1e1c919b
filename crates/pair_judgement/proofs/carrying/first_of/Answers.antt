use Rattle.std.proofs.Common.{IsTrue, subst}
use Rattle.std.specs.Prelude.{ℕ, ◌↔◌}
use Rattle.journal_merge.proofs.First.{none_more, none_end, first_here}
use Rattle.pair_judgement.specs.Carrying.{EndsTooLate}
use Rattle.pair_judgement.proofs.CarriedLines.{IsTooLateIn}
use Rattle.pair_judgement.proofs.carrying.first_of.Goals as goal

pub returns-then-ends_too_late : goal.returns-then-ends_too_late
returns-then-ends_too_late c =
    let lines = c.args.lines.now in
    let late = subst (λ (opened : ℕ). IsTrue c.ends_too_late.result ↔ EndsTooLate opened c.index-lines-place.result.event)
    c.opened_at-opened.ensures.value c.ends_too_late.ensures in
    first_here (IsTooLateIn lines) lines c.loop-place.place c.index-lines-place.result _ c.loop-place-test.true
    c.index-lines-place.is c.loop-place.invariant (late.0 c.if-ends_too_late.true)

pub loop-place-preserved : goal.loop-place-preserved
loop-place-preserved c =
    let lines = c.args.lines.now in
    let late = subst (λ (opened : ℕ). IsTrue c.ends_too_late.result ↔ EndsTooLate opened c.index-lines-place.result.event)
    c.opened_at-opened.ensures.value c.ends_too_late.ensures in
    none_more (IsTooLateIn lines) lines c.loop-place.place c.index-lines-place.result _ c.loop-place-test.true
    c.index-lines-place.is c.loop-place.invariant
    (λ h. let yes = late.1 h in let nay = c.if-ends_too_late.false in cc)

pub returns : goal.returns
returns c =
    none_end (IsTooLateIn c.args.lines.now) c.args.lines.now c.loop-place.place c.loop-place-test.false
    c.loop-place.invariant
