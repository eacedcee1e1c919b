use Rattle.std.specs.Prelude.{◌≡◌, ◌++◌, take}
use Rattle.std.specs.List.{flat_map}
use Rattle.report_render.specs.VolumeLines.{line_html}
use Rattle.report_render.proofs.volume_lines.push_lines.Given as goal

abbrev pub invariant-loop-line : goal.invariant-loop-line
invariant-loop-line l =
    l.out.items ≡ l.initial.out.items ++ flat_map (line_html l.origins) (take l.line-index l.cited)
