use Rattle.std.proofs.Common.{rules, sym}
use Rattle.causal_order.proofs.Walking.{some_latest}
use Rattle.causal_order.proofs.bounds.latest_of.Goals as goal

pub returns : goal.returns
returns g c = some_latest _ _ c.in_ok-end.end c.args.skew c.in_ok-reading.reading _ (search rules)
    (sym c.in_ok-end.ensures) (sym c.in_ok-reading.ensures) (search rules)
