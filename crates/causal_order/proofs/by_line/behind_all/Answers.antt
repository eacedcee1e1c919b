use Rattle.std.proofs.Common.{rules}
use Rattle.causal_order.proofs.Orders.{is_order_of_more}
use Rattle.causal_order.proofs.by_line.behind_all.Goals as goal

pub returns-clause-order : goal.returns-clause-order
returns-clause-order g c =
    is_order_of_more g.T.NamesLine.named c.args.entries.now c.args.order.now c.requires c.args.entry.now
    (search rules) c.count_before.result c.count_before.ensures.within (search rules) (search rules)
