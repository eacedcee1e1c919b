use Rattle.std.proofs.Common.{◌≡◌, ◌++◌, drop, flat_map}
use Rattle.pair_judgement.specs.Judgements.{judgement_line}
use Rattle.attribution_desk.proofs.batch.answer_of.Given as goal

abbrev pub invariant-loop-ruling : goal.invariant-loop-ruling
invariant-loop-ruling l = l.line.items ++ flat_map judgement_line (drop l.ruling-index l.rulings)
    ≡ flat_map judgement_line l.rulings
