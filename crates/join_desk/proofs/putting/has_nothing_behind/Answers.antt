use Rattle.join_desk.proofs.Outcomes.{not_told}
use Rattle.join_desk.proofs.putting.has_nothing_behind.Goals as goal

pub returns : goal.returns
returns c = not_told c.args.lines.now c.is_published.result c.is_published.ensures
