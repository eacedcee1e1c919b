use Rattle.std.proofs.Common.{rules, subst, sym}
use Rattle.std.specs.List.Sorted.{IsNonDecreasing}
use Rattle.std.proofs.lemmas.List.Sorted.{IsNonDecreasingBy-from_sort}
use Rattle.server_status.specs.Syncs.{recent_times}
use Rattle.server_status.proofs.Summing.{summary_is}
use Rattle.server_status.proofs.sync_times.SyncTimes.summary.Goals as goal

-- src/sync_times.rt:109:5
pub returns : goal.returns
returns c =
    summary_is (recent_times c.args.now c.args.self.now) c.deref.result.now c.summary_of.result (search rules)
    (subst IsNonDecreasing (sym c.deref.ensures.value)
    (IsNonDecreasingBy-from_sort (λ x. x) _ c.in_ok-sort.ensures.sorted)) (search rules) (search rules)
