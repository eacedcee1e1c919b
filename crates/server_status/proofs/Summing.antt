-- What is said of times, by their order.
use Rattle.std.specs.Prelude.{◌≡◌, ℕ, List, [], ◌∷◌, length, Option, Some, None, MatchOption, refl}
use Rattle.std.proofs.Common.{sym, ◌∙◌, ap}
use Rattle.std.specs.List.Sorted.{IsPermutation, IsNonDecreasing}
use Rattle.server_status.specs.declared.sync_times.SyncSummary.{SyncSummary}
use Rattle.server_status.specs.Syncs.{IsSummaryOf, IsSummary}

empty : (times : List ℕ) → length times ≡ 0 → times ≡ []
empty [] none = refl
empty (x ∷ xs) none = absurd cc

pub summary_is : (times sorted : List ℕ) (s : Option SyncSummary) → IsPermutation times sorted → IsNonDecreasing sorted
    → length sorted ≡ length times → MatchOption s (sorted ≡ []) (IsSummaryOf sorted) → IsSummary times s
summary_is times sorted None permuted rising same none = empty times (sym same ∙ ap length none)
summary_is times sorted (Some s) permuted rising same is = (sorted, permuted, rising, is)
