-- Two journals as a case, over which questions are asked.
use Rattle.std.specs.Prelude.{◌≡◌, ℕ}
use Rattle.journal_lines.specs.declared.line.Journal.{Journal}
use Rattle.causal_order.specs.Journals.{journals_of}
use Rattle.pair_judgement.specs.PairJudgements.{IsRuledOut, IsFit}
use Rattle.attribution_desk.specs.declared.indexed_pair.IndexedPair.{IndexedPair as CaseValue}
use Rattle.attribution_desk.specs.declared.indexed_pair.IndexedPair.TheVariants.{Open, Refused}

-- what stands against the two journals, or else an index of them
abbrev pub IsCaseOf : Journal → Journal → (skew : ℕ) → CaseValue → Type 0
IsCaseOf a b skew (Open index) = IsFit a b skew × (index.journals ≡ journals_of a b)
IsCaseOf a b skew (Refused ruling) = IsRuledOut a b skew ruling
