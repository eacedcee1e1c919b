use Rattle.std.proofs.Common.{ap, ◌∙◌, inl, inr, Some}
use Rattle.unit_index.proofs.LeaseOrder.{inserted_only}
use Rattle.unit_index.proofs.leasing.leases.expect.Goals as goal

pub returns-in_ok-insert-clause-only : goal.returns-in_ok-insert-clause-only
returns-in_ok-insert-clause-only c = λ h has.
    elim (inserted_only c.args.leases.now c.insert.new.self c.in-Some.held h (c.in_ok-insert.ensures.updates.0 h) has)
    [ inl old ↦ inl old | inr one ↦ inr (c.in-Some.is ∙ ap Some one) ]
