use Rattle.std.proofs.Common.{w64, subst, rules}
use Rattle.std.specs.Prelude.{◌≡◌, ◌↔◌, IsTrue, ℕ, ℤ, pos, ◌+ℤ◌, ◌≤ℤ◌}
use Rattle.std.proofs.lemmas.Int.{to_z-of_z}
use Rattle.auditor.proofs.Bounds.{reached_by_latest, never_reached}
use Rattle.auditor.proofs.grants.is_reached_by.Goals as goal

pub returns-in-Some : goal.returns-in-Some
returns-in-Some g c =
    let wait : c.milliseconds.result ≡ c.args.transit = search rules in
    let exact = subst (λ (m : ℤ). IsTrue c.is_past.result ↔ (m +ℤ pos c.milliseconds.result) ≤ℤ pos c.args.moment)
    (to_z-of_z w64 c.in-Some.latest (search rules)) c.is_past.ensures in
    reached_by_latest _ _ _ _ _ c.in-Some.latest _ _ c.in-Some.ensures
    (subst (λ (n : ℕ). IsTrue c.is_past.result ↔ (c.in-Some.latest +ℤ pos n) ≤ℤ pos c.args.moment) wait exact)

pub returns-in-None : goal.returns-in-None
returns-in-None g c = never_reached _ _ _ _ _ _ c.in-None.ensures
