use Rattle.std.proofs.Common.{◌≡◌, ◌↔◌, ◌≤◌, ◌-◌, length, drop, slice_get, Some, IsTrue}
use Rattle.journal_lines.specs.declared.line.Line.{Line}
use Rattle.pair_judgement.specs.Ties.{is_setting, settings_of}
use Rattle.pair_judgement.proofs.ties.are_alike.Given as goal

abbrev pub invariant-loop-i : goal.invariant-loop-i
invariant-loop-i l = (l.i ≤ length l.first) × (l.j ≤ length l.second)
    × ((line : Line) → slice_get l.first l.i ≡ Some line → IsTrue (is_setting line.event))
    × ((line : Line) → slice_get l.second l.j ≡ Some line → IsTrue (is_setting line.event))
    × ((settings_of (drop l.i l.first) ≡ settings_of (drop l.j l.second))
    ↔ (settings_of l.first ≡ settings_of l.second))

abbrev pub decreases-loop-i : goal.decreases-loop-i
decreases-loop-i l = length l.first - l.i
