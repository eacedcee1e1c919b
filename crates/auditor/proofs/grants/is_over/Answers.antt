use Rattle.std.proofs.Common.{w64, subst, rules}
use Rattle.std.specs.Prelude.{◌↔◌, IsTrue, ℤ}
use Rattle.auditor.specs.Bounds.{IsSurelyOver}
use Rattle.std.proofs.lemmas.Int.{to_z-of_z}
use Rattle.auditor.proofs.Bounds.{ended_by_latest, never_ended}
use Rattle.auditor.proofs.grants.is_over.Goals as goal

pub returns-in-Some : goal.returns-in-Some
returns-in-Some g c = ended_by_latest _ _ _ _ _ c.in-Some.latest _ _ _ c.in-Some.ensures
    (subst (λ (m : ℤ). IsTrue c.ends_by.result
    ↔ IsSurelyOver c.args.lasting m c.args.skew c.args.transit c.args.moment)
    (to_z-of_z w64 c.in-Some.latest (search rules)) c.ends_by.ensures)

pub returns-in-None : goal.returns-in-None
returns-in-None g c = never_ended _ _ _ _ _ _ _ c.in-None.ensures
