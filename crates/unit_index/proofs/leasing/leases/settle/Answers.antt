use Rattle.std.proofs.Common.{sym, ◌≡◌, subst, true}
use Rattle.book_rules.specs.State.{state}
use Rattle.unit_index.specs.Leases.{IsHeld}
use Rattle.unit_index.proofs.LeaseOrder.{removed_kept}
use Rattle.unit_index.proofs.leasing.leases.settle.Goals as goal

pub returns-then-not-is_held-clause-kept : goal.returns-then-not-is_held-clause-kept
returns-then-not-is_held-clause-kept c =
    λ h held has. removed_kept c.args.leases.now c.remove.new.self c.in-Some.held h (c.remove.ensures.updates.0 h)
    (λ one. (
    let yes : c.is_held.result ≡ true = c.is_held.ensures.1 (subst (IsHeld (state c.args.table.now)) (sym one) held) in
    let out = c.if-not-is_held.true in
    absurd (cc))) has
