use Rattle.std.proofs.Common.{◌≡◌, ◌++◌, ◌≤◌, drop}
use Rattle.client_limits.proofs.Permits.{all_permits}
use Rattle.client_limits.proofs.quotas.permits.Given as goal

abbrev pub invariant-loop-place : goal.invariant-loop-place
invariant-loop-place l = (l.more ≤ l.place)
    × (all_permits l.fn.known l.fn.asking 0 0 l.fn.ias
    ≡ l.permits.items ++ all_permits l.fn.known l.fn.asking l.place l.more (drop l.place l.fn.ias))
