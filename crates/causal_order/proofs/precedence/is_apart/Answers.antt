use Rattle.std.proofs.Common.{rules}
use Rattle.causal_order.proofs.Clocks.{clock_decided, other_end}
use Rattle.causal_order.proofs.precedence.is_apart.Goals as goal

pub returns-then-not-is_at-2 : goal.returns-then-not-is_at-2
returns-then-not-is_at-2 g c = (
  λ h. absurd (cc),
  λ h. absurd (other_end (g.L.Lines.journals c.args.lines.now) c.args.before.now c.args.after.now c.args.first
      c.args.second c.args.skew (search rules) h),
)

pub returns : goal.returns
returns g c =
    clock_decided (g.L.Lines.journals c.args.lines.now) c.args.before.now c.args.after.now c.args.first c.args.second
    c.args.skew
    c.latest_of.result c.earliest_of.result c.is_earlier.result c.latest_of.ensures c.earliest_of.ensures
    (search rules) (search rules) c.is_earlier.ensures
