use Rattle.std.proofs.Common.{arith, List, subst, sym, take, ◌+◌}
use Rattle.std.proofs.lemmas.List.{take_all}
use Rattle.serde_json.specs.View.{view}
use Rattle.serde_json.specs.declared.value.Value.{Value}
use Rattle.candidate_leases.specs.declared.candidates.CandidateLease.{CandidateLease}
use Rattle.answer_data.specs.Leases.{IsLease}
use Rattle.answer_data.proofs.MoreLeases.{AreLeasesSoFar, leases_step, are_leases}
use Rattle.answer_data.proofs.lease_data.leases_of.Goals as goal

pub loop-lease-preserved : goal.loop-lease-preserved
loop-lease-preserved c =
    let q = c.args.query.now in
    let xs = c.args.leases.now in
    let i = c.loop-lease.lease-index in
    let x = c.lease-item.result in
    subst (λ (vs : List Value). AreLeasesSoFar q (take (i + 1) xs) vs) (sym {A = List Value} c.in_ok-push.ensures.items)
    (leases_step q xs i x c.loop-lease.values.items c.in_ok-lease_of.field-0 c.loop-lease-test.true
    c.loop-lease.invariant (subst (λ (y : CandidateLease). IsLease q y (view c.in_ok-lease_of.field-0)) c.lease-item.is
    c.in_ok-lease_of.ensures))

pub returns : goal.returns
returns c =
    let q = c.args.query.now in
    let xs = c.args.leases.now in
    are_leases q xs c.loop-lease.values
    (subst (λ (ys : List CandidateLease). AreLeasesSoFar q ys c.loop-lease.values.items)
    (take_all c.loop-lease.lease-index xs (omega (arith, c.loop-lease-test.false))) c.loop-lease.invariant)
