use Rattle.std.proofs.Common.{◌≡◌, map}
use Rattle.server_status.specs.Syncs.{recent_times}
use Rattle.server_status.proofs.sync_times.SyncTimes.recent.Given as goal

-- the times that took part so far
abbrev pub invariant-loop-time : goal.invariant-loop-time
invariant-loop-time l = l.times.items ≡ recent_times l.now (map (λ time. time.now) l.yielded)
