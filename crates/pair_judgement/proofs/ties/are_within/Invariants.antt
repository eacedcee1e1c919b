use Rattle.std.proofs.Common.{take}
use Rattle.pair_judgement.specs.Ties.{AreWithin}
use Rattle.pair_judgement.proofs.ties.are_within.Given as goal

abbrev pub invariant-loop-line : goal.invariant-loop-line
invariant-loop-line l = AreWithin (take l.line-index l.lines) l.skew l.transit
