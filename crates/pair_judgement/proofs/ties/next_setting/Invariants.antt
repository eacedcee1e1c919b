use Rattle.std.proofs.Common.{◌≡◌, ◌≤◌, ◌-◌, length, drop}
use Rattle.pair_judgement.specs.Ties.{settings_of}
use Rattle.pair_judgement.proofs.ties.next_setting.Given as goal

abbrev pub invariant-loop-place : goal.invariant-loop-place
invariant-loop-place l = (l.from ≤ l.place) × (l.place ≤ length l.lines)
    × (settings_of (drop l.from l.lines) ≡ settings_of (drop l.place l.lines))

abbrev pub decreases-loop-place : goal.decreases-loop-place
decreases-loop-place l = length l.lines - l.place
