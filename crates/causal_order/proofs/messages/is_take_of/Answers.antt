use Rattle.std.proofs.Common.{rules}
use Rattle.causal_order.proofs.Deciding.{take_decided}
use Rattle.causal_order.proofs.messages.is_take_of.Goals as goal

pub returns-then-eq-clause-decided : goal.returns-then-eq-clause-decided
returns-then-eq-clause-decided g c = take_decided (g.L.Lines.journals c.args.lines.now) c.args.send c.args.take
    c.is_received.result (search rules)
