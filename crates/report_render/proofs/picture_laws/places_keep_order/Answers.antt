use Rattle.report_render.proofs.Places.{keep_order, are_within}
use Rattle.report_render.proofs.picture_laws.places_keep_order.Goals as goal

pub returns-clause-order : goal.returns-clause-order
returns-clause-order c = keep_order

pub returns-clause-within : goal.returns-clause-within
returns-clause-within c = are_within
