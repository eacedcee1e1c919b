use Rattle.std.proofs.Common.{◌≡◌, ◌++◌, take}
use Rattle.std.specs.List.{flat_map}
use Rattle.report_render.specs.Picture.{bars_of, foreign_bar}
use Rattle.report_render.proofs.taking.push_foreign.Given as goal

abbrev pub invariant-loop-entry : goal.invariant-loop-entry
invariant-loop-entry l =
    l.bars.items
    ≡ l.initial.bars.items ++ flat_map (λ f. bars_of (foreign_bar l.skew l.transit f)) (take l.entry-index l.foreign)
