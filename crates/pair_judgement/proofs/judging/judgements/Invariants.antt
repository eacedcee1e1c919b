use Rattle.std.proofs.Common.{◌≡◌, map, take}
use Rattle.pair_judgement.specs.declared.judging.Judgement.TheVariants.{Verdict}
use Rattle.pair_judgement.proofs.judging.judgements.Given as goal

abbrev pub invariant-loop-verdict : goal.invariant-loop-verdict
invariant-loop-verdict l = l.rulings.items ≡ map Verdict (take l.verdict-index l.verdicts)
