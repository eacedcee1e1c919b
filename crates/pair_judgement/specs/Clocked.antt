-- Which clocks fit two journals: the least skew with which they could have been written, and how it is spelled.
use Rattle.std.specs.Prelude.{◌≡◌, ℕ, List, [], ◌∷◌, ◌++◌, Option, Some, None, codes}
use Rattle.std.specs.Fmt.{decimal}
use Rattle.journal_lines.specs.declared.line.Journal.{Journal}
use Rattle.causal_order.specs.Journals.{Journals, journals_of}
use Rattle.journal_merge.specs.declared.early.EarlyTake.{EarlyTake}
use Rattle.journal_merge.specs.declared.early.LeastSkew.{LeastSkew}
use Rattle.journal_merge.specs.Early.{IsLeastSkew}
use Rattle.attribution.specs.VerdictText.{place_text}
use Rattle.auditor.specs.Pair.{IsPairRefused, IsPairLegal}
use Rattle.pair_judgement.specs.declared.clocks.ClockJudgement.{ClockJudgement}
use Rattle.pair_judgement.specs.declared.clocks.ClockJudgement.TheVariants.{Fit, Refused}

-- the take that needs the skew, and the send that it reads behind
abbrev pub behind_text : Option EarlyTake → List ℕ
behind_text None = []
behind_text (Some b) =
    place_text b.take.side b.take.number ++ (codes " behind " ++ (place_text b.send.side b.send.number ++ 10 ∷ []))

-- `least-skew N`, in milliseconds, and a second line where N isn't 0
abbrev pub least_text : LeastSkew → List ℕ
least_text least = codes "least-skew " ++ (decimal least.skew ++ (10 ∷ behind_text least.behind))

-- the least skew at which no take of two journals is early, as a text
abbrev pub IsLeastText : Journals → List ℕ → Type 0
IsLeastText js text = (least : LeastSkew) × IsLeastSkew js least × (text ≡ least_text least)

-- the verdict that refuses two journals, or else the least skew that fits them
abbrev pub IsClocked : Journal → Journal → ClockJudgement → Type 0
IsClocked a b (Refused v) = IsPairRefused a b v
IsClocked a b (Fit least) = IsPairLegal a b × IsLeastSkew (journals_of a b) least
