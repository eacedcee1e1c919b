use Rattle.auditor.proofs.OpenLines.{no_chain}
use Rattle.auditor.proofs.opened.is_clear_of_open.Goals as goal

pub returns-in-None : goal.returns-in-None
returns-in-None g c = no_chain _ _ _ c.args.piece.now c.in-None.ensures
