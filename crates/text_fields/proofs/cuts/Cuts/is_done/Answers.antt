use Rattle.text_fields.proofs.Cutting.{none_left}
use Rattle.text_fields.proofs.cuts.Cuts.is_done.Goals as goal

pub returns : goal.returns
returns c = rw (← c.self.view_is) (none_left _ _ _ c.is_none.ensures)
