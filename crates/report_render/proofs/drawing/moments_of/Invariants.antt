use Rattle.std.proofs.Common.{◌≡◌, ◌++◌, ◌∷◌, take, map}
use Rattle.std.specs.List.{flat_map}
use Rattle.report_render.specs.Drawing.{bar_moments, asked_moments}
use Rattle.report_render.proofs.drawing.moments_of.Given as goal

abbrev pub invariant-loop-bar : goal.invariant-loop-bar
invariant-loop-bar l =
    l.moments.items ≡ (l.picture.from ∷ l.picture.to ∷ asked_moments l.picture.asked) ++ flat_map bar_moments (take l.bar-index l.picture.bars.items)

abbrev pub invariant-loop-dot : goal.invariant-loop-dot
invariant-loop-dot l = l.moments.items ≡ l.initial.moments.items ++ map (λ d. d.reading) (take l.dot-index l.picture.dots.items)
