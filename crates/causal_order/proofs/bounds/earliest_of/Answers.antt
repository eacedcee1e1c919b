use Rattle.std.proofs.Common.{rules, sym}
use Rattle.causal_order.proofs.Walking.{some_earliest}
use Rattle.causal_order.proofs.bounds.earliest_of.Goals as goal

pub returns : goal.returns
returns g c = some_earliest _ _ c.in_ok-begin.begin c.args.skew c.in_ok-reading.reading _ (search rules)
    (sym c.in_ok-begin.ensures) (sym c.in_ok-reading.ensures) (search rules)
