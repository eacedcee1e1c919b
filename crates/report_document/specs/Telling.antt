-- What a report tells: the values of its blocks, in order. Its prose isn't said here.
use Rattle.std.specs.Prelude.{◌≡◌, ℕ, ◌+◌, ◌-◌, nat_le, Bool, true, false, if◌then◌else◌, List, [], ◌∷◌, ◌++◌, map}
use Rattle.std.specs.Prelude.{Option, Some, None}
use Rattle.std.specs.List.{filter, flat_map}
use Rattle.causal_order.specs.declared.reference.Ref.{Ref}
use Rattle.evidence_report.specs.declared.mark.LineReading.{LineReading}
use Rattle.evidence_report.specs.declared.mark.OrderReport.{OrderReport}
use Rattle.evidence_report.specs.declared.mark.OrderReport.TheVariants.{Chain, Clock}
use Rattle.report_document.specs.declared.word.ReportWord.{ReportWord}
use Rattle.report_document.specs.declared.word.ReportWord.TheVariants as word
use Rattle.report_document.specs.declared.word.ReportWord.TheVariants.{Prose}
use Rattle.report_document.specs.declared.block.Block.{Block}
use Rattle.report_document.specs.declared.moments.BoundSide.{BoundSide}
use Rattle.report_document.specs.declared.moments.BoundSide.TheVariants.{Latest, Earliest}
use Rattle.report_document.specs.declared.block.BlockKind.{BlockKind}
use Rattle.report_document.specs.declared.block.BlockKind.TheVariants.{Heading, Paragraph, Item, Cited}

abbrev pub is_value : ReportWord → Bool
is_value (Prose text) = false
is_value _ = true

-- the values among words
abbrev pub values_of : List ReportWord → List ReportWord
values_of words = filter is_value words

-- the values among the parts of a sentence
abbrev pub values_in : {X : Type 0} → List (X × ReportWord) → List ReportWord
values_in parts = flat_map (λ part. values_of (part.1 ∷ [])) parts

-- a block without its prose
pub record Told : Type 0 where
  pub kind : BlockKind
  pub values : List ReportWord

abbrev pub told_of : Block → Told
told_of b = record { kind = b.kind; values = values_of b.words.items }

abbrev pub heading : List ReportWord → Told
heading values = record { kind = Heading; values = values }

abbrev pub paragraph : List ReportWord → Told
paragraph values = record { kind = Paragraph; values = values }

abbrev pub item : List ReportWord → Told
item values = record { kind = Item; values = values }

abbrev pub cited : List ReportWord → Told
cited values = record { kind = Cited; values = values }

-- the blocks tell this more
abbrev pub AddsBlocks : List Told → List Block → List Block → Type 0
AddsBlocks more old new = map told_of new ≡ map told_of old ++ more

-- ---- moments of lines

-- the moment that is left of a sum when so much is taken off
abbrev pub less : (sum off : ℕ) → ReportWord
less sum off = if nat_le off sum then word.Moment (sum - off) else word.BeforeEpoch (off - sum)

-- the order of a chain's lines, where it has two or more
abbrev pub chain_told : List Ref → List Told
chain_told [] = []
chain_told (r ∷ []) = []
chain_told (r ∷ s ∷ chain) = item (map word.Line (r ∷ s ∷ chain)) ∷ []

-- what is named for the line is no chain
abbrev pub no_chain : Ref → List Told
no_chain r = item (word.Line r ∷ []) ∷ []

-- r was written by the reading at the mark, and the skew
abbrev pub latest_told : (skew : ℕ) → Ref → LineReading → List Told
latest_told skew r m =
    item (
    word.Line m.at ∷ word.Reading m.reading ∷ word.Line r
    ∷ word.Number m.reading ∷ word.Number skew ∷ word.Moment (m.reading + skew) ∷ []
    ) ∷ []

-- it was written at the reading at the mark less the skew, or later
abbrev pub earliest_told : (skew : ℕ) → Ref → LineReading → List Told
earliest_told skew r m =
    item (
    word.Line m.at ∷ word.Reading m.reading ∷ word.Line r
    ∷ word.Number m.reading ∷ word.Number skew ∷ less m.reading skew ∷ []
    ) ∷ []

abbrev pub moment_told : BoundSide → (skew : ℕ) → Ref → LineReading → List Told
moment_told Latest skew r m = latest_told skew r m
moment_told Earliest skew r m = earliest_told skew r m

-- by when r was written, by a chain from it, or from when on, by a chain to it
abbrev pub written : BoundSide → (skew : ℕ) → Ref → List Ref → Option LineReading → List Told
written bound skew r chain None = no_chain r
written bound skew r chain (Some m) = chain_told chain ++ moment_told bound skew r m

abbrev pub written_by : (skew : ℕ) → Ref → List Ref → Option LineReading → List Told
written_by skew r chain m = written Latest skew r chain m

abbrev pub written_from : (skew : ℕ) → Ref → List Ref → Option LineReading → List Told
written_from skew r chain m = written Earliest skew r chain m

-- the moment that the one told last must not pass
abbrev pub must : ℕ → List Told
must moment = item (word.Moment moment ∷ []) ∷ []

-- ---- which of two lines came first

abbrev pub before_told : Ref → Ref → List Told
before_told r s = item (word.Line r ∷ word.Line s ∷ []) ∷ []

abbrev pub order_told : (skew : ℕ) → Ref → Ref → OrderReport → List Told
order_told skew r s (Chain chain leads) = chain_told chain.now ++ before_told r s
order_told skew r s (Clock before latest after earliest) =
    written_by skew r before.now latest ++ written_from skew s after.now earliest ++ before_told r s
