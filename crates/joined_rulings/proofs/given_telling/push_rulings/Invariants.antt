use Rattle.std.proofs.Common.{◌≡◌, ◌++◌, take}
use Rattle.std.specs.List.{flat_map}
use Rattle.pair_judgement.specs.Judgements.{judgement_line}
use Rattle.joined_rulings.proofs.given_telling.push_rulings.Given as goal

abbrev pub invariant-loop-ruling : goal.invariant-loop-ruling
invariant-loop-ruling l =
    l.out.items ≡ l.fn.out.items ++ flat_map judgement_line (take l.ruling-index l.rulings)
