use Rattle.std.proofs.Common.{◌≡◌, map, take}
use Rattle.report_render.specs.Picture.{dot_of}
use Rattle.report_render.proofs.taking.dots_of.Given as goal

abbrev pub invariant-loop-line : goal.invariant-loop-line
invariant-loop-line l = l.dots.items ≡ map dot_of (take l.line-index l.cited)
