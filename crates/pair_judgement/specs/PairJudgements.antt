-- What the desk rules on two journals, whatever is claimed over them: after what refuses them by the definition of the
-- verdict, whether any clocks within the skew can have written them, and then whether a legal volume leaves what they
-- carry.
use Rattle.std.specs.Prelude.{ℕ, Option, MatchOption}
use Rattle.journal_lines.specs.declared.line.Journal.{Journal}
use Rattle.causal_order.specs.declared.reference.Ref.{Ref}
use Rattle.causal_order.specs.Journals.{Journals, journals_of}
use Rattle.causal_order.specs.LineOrder.{IsLeast}
use Rattle.journal_merge.specs.Placing.{Placed}
use Rattle.attribution.specs.Clocks.{IsEarly, NoneIsEarly}
use Rattle.auditor.specs.Pair.{IsPairRefused, IsPairLegal}
use Rattle.pair_judgement.specs.declared.judging.Judgement.{Judgement}
use Rattle.pair_judgement.specs.declared.judging.Judgement.TheVariants.{Verdict, Clocks, Carried}
use Rattle.pair_judgement.specs.declared.pair.PairJudgement.{PairJudgement}
use Rattle.pair_judgement.specs.declared.pair.PairJudgement.TheVariants.{Fit, Refused}
use Rattle.pair_judgement.specs.Carrying.{CarriesTooMuch, NoneCarriesTooMuch}

-- the least take that is early at this skew, A's before B's; none where no take is
abbrev pub IsFirstEarly : Journals → (skew : ℕ) → Option Ref → Type 0
IsFirstEarly js skew take = MatchOption take (NoneIsEarly js skew) (IsLeast (IsEarly js skew))

-- what stands against the two: a verdict that refuses them, or else, for K1, the least take that is early, or else, for
-- K4, the first line that carries what no legal volume leaves
abbrev pub IsRuledOut : Journal → Journal → (skew : ℕ) → Judgement → Type 0
IsRuledOut a b skew (Verdict v) = IsPairRefused a b v
IsRuledOut a b skew (Clocks take) = IsPairLegal a b × IsLeast (IsEarly (journals_of a b) skew) take
IsRuledOut a b skew (Carried line) =
    IsPairLegal a b × NoneIsEarly (journals_of a b) skew × IsLeast (CarriesTooMuch (journals_of a b)) line
IsRuledOut a b skew _ = ⊥

-- nothing does: they keep the rules, their lines have an order, no take is early, and no line carries too much
abbrev pub IsFit : Journal → Journal → (skew : ℕ) → Type 0
IsFit a b skew =
    IsPairLegal a b × NoneIsEarly (journals_of a b) skew × NoneCarriesTooMuch (journals_of a b)

-- what ruling on the two answers: that they fit, with the list that the placing rule gives, or what stands against them
abbrev pub IsPairJudgement : Journal → Journal → (skew : ℕ) → PairJudgement → Type 0
IsPairJudgement a b skew (Fit merged) = IsFit a b skew × Placed (journals_of a b) merged.refs
IsPairJudgement a b skew (Refused ruling) = IsRuledOut a b skew ruling
