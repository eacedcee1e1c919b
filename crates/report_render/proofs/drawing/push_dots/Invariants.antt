use Rattle.std.proofs.Common.{◌≡◌, ◌++◌, drop}
use Rattle.report_render.specs.Drawing.{dots_svg}
use Rattle.report_render.proofs.drawing.push_dots.Given as goal

-- what is drawn, and what is left to draw
abbrev pub invariant-loop-index : goal.invariant-loop-index
invariant-loop-index l =
    l.out.items ++ dots_svg l.axis l.first l.index (drop l.index l.dots)
    ≡ l.initial.out.items ++ dots_svg l.axis l.first 0 l.dots
