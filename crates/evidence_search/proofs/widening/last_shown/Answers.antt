use Rattle.std.proofs.Common.{arith, inl, inr}
use Rattle.evidence_search.proofs.Widened.{past_reading}
use Rattle.evidence_search.proofs.widening.last_shown.Goals as goal

pub returns-in_default-clause-last : goal.returns-in_default-clause-last
returns-in_default-clause-last g c to lt =
    let value = c.milliseconds.ensures.value in
    let within = c.milliseconds.ensures.within in
    past_reading _ c.close_reading-closed.result _ c.close_reading-closed.ensures
    (elim c.in_default.ensures [ inl less ↦ (omega arith) | inr more ↦ absurd (omega arith) ])

pub returns-else-milliseconds-clause-last : goal.returns-else-milliseconds-clause-last
returns-else-milliseconds-clause-last g c to lt =
    let value = c.milliseconds.ensures.value in
    let is = c.in-Some.ensures in
    past_reading _ c.close_reading-closed.result _ c.close_reading-closed.ensures (let less =
    c.if-milliseconds.false in let first = c.milliseconds-2.ensures.value in
    let second = c.milliseconds-3.ensures.value in omega arith)
