-- Takes that read far below their sends are the early ones, in journals that nothing refuses.
use Rattle.std.specs.Prelude.{ℕ, Option, Some, None, MatchOption}
use Rattle.binding_rules.specs.declared.role.Role.{Role}
use Rattle.binding_rules.specs.declared.role.Role.TheVariants.{Primary, Secondary}
use Rattle.journal_lines.specs.declared.line.Journal.{Journal}
use Rattle.causal_order.specs.declared.reference.Ref.{Ref}
use Rattle.causal_order.specs.Journals.{journal_of, volume_of, journals_of}
use Rattle.causal_order.specs.LineOrder.{IsLeast}
use Rattle.book_rules.specs.Volumes.{IsVolume}
use Rattle.journal_merge.specs.Early.{IsFarBelowSend, NoneIsFarBelow}
use Rattle.attribution.specs.Clocks.{AreChecked, EarlyByFirstSend}
use Rattle.auditor.specs.Pair.{IsPairLegal}
use Rattle.pair_judgement.specs.PairJudgements.{IsFirstEarly}

module _ (a b : Journal) (legal : IsPairLegal a b) where
  each_legal : (side : Role) → IsVolume side (volume_of (journals_of a b) side) (journal_of (journals_of a b) side)
  each_legal Primary = legal.0
  each_legal Secondary = legal.1

  checked : AreChecked (journals_of a b)
  checked = record { legal = each_legal; matched = legal.2; ordered = legal.3 }

  module _ (law : EarlyByFirstSend) (skew : ℕ) where
    -- the least take that reads far below its send is the least that is early
    pub first_early : (take : Option Ref)
        → MatchOption take (NoneIsFarBelow (journals_of a b) skew) (IsLeast (IsFarBelowSend (journals_of a b) skew))
        → IsFirstEarly (journals_of a b) skew take
    first_early None none = λ take early. none take ((law (journals_of a b) skew take checked).0 early)
    first_early (Some take) least = (
      (law (journals_of a b) skew take checked).1 least.0,
      λ other before early. least.1 other before ((law (journals_of a b) skew other checked).0 early),
    )
