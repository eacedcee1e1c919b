use Rattle.client_limits.proofs.Counts.{counted_anew}
use Rattle.client_limits.proofs.rates.Rates.set.Goals as goal

pub returns-clause-set : goal.returns-clause-set
returns-clause-set c = counted_anew c.args.self.now.counts c.insert.new.self c.args.name.items c.args.count
    c.in_ok-insert.ensures.updates.1 c.in_ok-insert.ensures.updates.3
