-- What a ruling says of the world.
use Rattle.std.specs.Prelude.{◌≡◌, ℕ}
use Rattle.journal_lines.specs.declared.line.Journal.{Journal as Lines}
use Rattle.book_rules.specs.NextHead.{AreLegal}
use Rattle.causal_order.specs.Journals.{Journals, journals_of}
use Rattle.causal_order.specs.declared.certificate.Certificate.{Certificate as Claim}
use Rattle.attribution.specs.Snapshot.{snapshots, IsTrueInRunsThatBeginSo}
use Rattle.attribution.specs.declared.verdict.Verdict.TheVariants.{Accepted}
use Rattle.pair_judgement.specs.declared.judging.Judgement.TheVariants.{Verdict}
use Rattle.attribution_desk.specs.Judgements.{IsJudgementOfJournals}

-- what is accepted over snapshots of what was read is true in every run whose volumes begin so
abbrev pub AcceptedRulingsAreTrue : Type 0
AcceptedRulingsAreTrue = (a b : Lines) (skew transit : ℕ) (claim : Claim)
    → IsJudgementOfJournals a b skew transit claim (Verdict Accepted) → (read : Journals)
    → journals_of a b ≡ snapshots read → IsTrueInRunsThatBeginSo AreLegal read skew transit claim
