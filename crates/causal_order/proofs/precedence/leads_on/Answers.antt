use Rattle.std.proofs.Common.{rules}
use Rattle.causal_order.proofs.Clocks.{long_leads}
use Rattle.causal_order.proofs.precedence.leads_on.Goals as goal

pub returns-then-chain-ge2 : goal.returns-then-chain-ge2
returns-then-chain-ge2 g c = long_leads (g.L.Lines.journals c.args.lines.now) c.args.chain.now c.args.first
    c.args.second c.leads.result c.leads.ensures (search rules)
