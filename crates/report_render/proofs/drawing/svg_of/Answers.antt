use Rattle.std.proofs.Common.{rules}
use Rattle.report_render.proofs.MoreLabels.{drawn_so}
use Rattle.report_render.proofs.drawing.svg_of.Goals as goal

pub returns : goal.returns
returns c =
    drawn_so c.args.picture.now c.in_ok-axis.axis.items c.in_ok-labels.labels _ c.in_ok-axis.ensures.sorted
    c.in_ok-axis.ensures.whole c.in_ok-labels.ensures (search rules)
