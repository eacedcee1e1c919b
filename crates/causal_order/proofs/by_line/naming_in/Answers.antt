use Rattle.std.proofs.Common.{rules}
use Rattle.causal_order.proofs.Orders.{named_between}
use Rattle.causal_order.proofs.by_line.naming_in.Goals as goal

pub returns : goal.returns
returns g c =
    named_between g.T.NamesLine.named c.args.entries.now c.args.order.now c.requires c.args.line
    c.count_before-first.result c.count_before-behind.result c.count_before-first.ensures.within
    c.count_before-behind.ensures.within (search rules) (search rules) (search rules) (search rules)
    (search rules)
