use Rattle.std.proofs.Common.{◌-◌, length}
use Rattle.memchr.specs.Find.{Nowhere, Passes, is_byte}
use Rattle.text_fields.proofs.cuts.first_stop.Given as goal

-- no stop stands before the next look
abbrev pub invariant-loop-from : goal.invariant-loop-from
invariant-loop-from l = Nowhere (Passes (is_byte l.stop) l.text) 0 l.from

abbrev pub decreases-loop-from : goal.decreases-loop-from
decreases-loop-from l = length l.text - l.from
