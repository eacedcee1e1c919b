-- What stands against two journals is what the desk rules, whatever is claimed over them.
use Rattle.std.specs.Prelude.{ℕ}
use Rattle.std.proofs.Common.{inl}
use Rattle.journal_lines.specs.declared.line.Journal.{Journal}
use Rattle.causal_order.specs.declared.certificate.Certificate.{Certificate}
use Rattle.pair_judgement.specs.declared.judging.Judgement.{Judgement}
use Rattle.pair_judgement.specs.PairJudgements.{IsRuledOut}
use Rattle.attribution_desk.specs.Judgements.{IsJudgementOfJournals}

pub refused_as : (a b : Journal) (skew transit : ℕ) (claim : Certificate) (r : Judgement) → IsRuledOut a b skew r
    → IsJudgementOfJournals a b skew transit claim r
refused_as a b skew transit claim r out = inl out
