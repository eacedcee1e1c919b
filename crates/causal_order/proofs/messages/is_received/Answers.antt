use Rattle.std.proofs.Common.{rules}
use Rattle.causal_order.proofs.Deciding.{both_pass}
use Rattle.causal_order.proofs.messages.is_received.Goals as goal

pub returns-in-Some-Some : goal.returns-in-Some-Some
returns-in-Some-Some c = both_pass c.args.sent c.args.taken c.in-Some-Some.sent c.in-Some-Some.taken c.is_same.result
    (search rules) (search rules) c.is_same.ensures
