use Rattle.std.proofs.Common.{◌≡◌, ◌++◌, drop}
use Rattle.report_render.specs.Drawing.{bars_svg}
use Rattle.report_render.proofs.drawing.push_bars.Given as goal

-- what is drawn, and what is left to draw
abbrev pub invariant-loop-index : goal.invariant-loop-index
invariant-loop-index l =
    l.out.items ++ bars_svg l.axis l.index (drop l.index l.bars) ≡ l.initial.out.items ++ bars_svg l.axis 0 l.bars
