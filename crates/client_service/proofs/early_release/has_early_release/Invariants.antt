use Rattle.std.specs.Prelude.{ℕ, ◌<◌}
use Rattle.std.proofs.Common.{◌≡◌, ◌≤◌, length}
use Rattle.client_service.specs.EarlyReleases.{IsOrderedEarly}
use Rattle.client_service.proofs.early_release.has_early_release.Given as goal

abbrev pub invariant-loop-place : goal.invariant-loop-place
invariant-loop-place l =
    (l.place ≤ l.place-end) × (l.place-end ≡ length l.message.ias)
    × ((place : ℕ) → place < l.place → IsOrderedEarly l.book l.terms l.now l.message l.permits place → ⊥)
