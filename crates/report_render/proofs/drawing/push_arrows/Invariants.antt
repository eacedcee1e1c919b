use Rattle.std.proofs.Common.{◌≡◌, ◌++◌, take}
use Rattle.std.specs.List.{flat_map}
use Rattle.report_render.specs.Drawing.{arrow_svg}
use Rattle.report_render.proofs.drawing.push_arrows.Given as goal

abbrev pub invariant-loop-arrow : goal.invariant-loop-arrow
invariant-loop-arrow l =
    l.out.items ≡ l.initial.out.items ++ flat_map (arrow_svg l.axis l.first) (take l.arrow-index l.arrows)
