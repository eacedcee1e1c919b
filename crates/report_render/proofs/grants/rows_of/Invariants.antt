use Rattle.std.proofs.Common.{take}
use Rattle.report_render.specs.Grants.{AreGrantRows}
use Rattle.report_render.proofs.grants.rows_of.Given as goal

abbrev pub invariant-loop-index : goal.invariant-loop-index
invariant-loop-index l = AreGrantRows 1 (take l.index l.pieces) l.rows.items
