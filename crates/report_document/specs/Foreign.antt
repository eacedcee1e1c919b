-- What is told of other clients' delegations.
use Rattle.std.specs.Prelude.{ℕ, ◌+◌, ◌*◌, ◌==◌, if◌then◌else◌, List, [], ◌∷◌, ◌++◌, Option, Some, None}
use Rattle.causal_order.specs.declared.reference.Ref.{Ref}
use Rattle.causal_order.specs.declared.certificate.Certificate.{Certificate}
use Rattle.attribution.specs.declared.delegation.Lasting.{Lasting}
use Rattle.attribution.specs.declared.delegation.Lasting.TheVariants.{For, Until}
use Rattle.evidence_report.specs.declared.mark.LineReading.{LineReading}
use Rattle.evidence_report.specs.declared.foreign_report.ReportedDelegation.{ReportedDelegation as ToldDelegation}
use Rattle.evidence_report.specs.declared.foreign_report.ForeignEvidence.{ForeignEvidence}
use Rattle.evidence_report.specs.declared.foreign_report.ForeignEvidence.TheVariants.{Early, Late, Released}
use Rattle.evidence_report.specs.declared.foreign_report.ForeignReport.{ForeignReport}
use Rattle.report_document.specs.declared.word.ReportWord.{ReportWord}
use Rattle.report_document.specs.declared.word.ReportWord.TheVariants as word
use Rattle.report_document.specs.Telling.{Told, heading, item, chain_told, no_chain, must, written_by, written_from}
use Rattle.report_document.specs.Telling.{order_told}
use Rattle.report_document.specs.Pieces.{endless_told}

-- for so many seconds, or up to this reading of its server's clock
abbrev pub lasting_word : Lasting → ReportWord
lasting_word (For seconds) = word.Seconds seconds
lasting_word (Until end) = word.Reading end

abbrev pub delegated_values : Ref → ToldDelegation → List ReportWord
delegated_values r t =
    word.Line r ∷ word.Reading t.reading ∷ word.Prefix t.delegation.prefix
    ∷ word.Client t.delegation.client ∷ word.Association t.delegation.iaid
    ∷ lasting_word t.delegation.lasting ∷ []

abbrev pub delegated : Ref → ToldDelegation → List Told
delegated r t = item (delegated_values r t) ∷ []

abbrev pub told_told : Ref → Option ToldDelegation → List Told
told_told r None = item (word.Line r ∷ []) ∷ []
told_told r (Some t) = delegated r t

-- ---- it ended before

-- it had ended by the reading that it lasts to, the skew and the transit
abbrev pub carried_by : (skew transit : ℕ) → Ref → (end : ℕ) → List Told
carried_by skew transit r end =
    item (
    word.Line r ∷ word.Number end ∷ word.Number skew ∷ word.Number transit
    ∷ word.Moment (end + skew + transit) ∷ []
    ) ∷ []

-- it had ended by the reading at the mark, the skew, the transit and its lifetime
abbrev pub ended_by : (skew transit : ℕ) → Ref → (seconds : ℕ) → LineReading → List Told
ended_by skew transit r seconds m =
    item (
    word.Line m.at ∷ word.Reading m.reading ∷ word.Line r
    ∷ word.Number m.reading ∷ word.Number skew ∷ word.Number transit ∷ word.Number (1000 * seconds)
    ∷ word.Moment (m.reading + skew + transit + 1000 * seconds) ∷ []
    ) ∷ []

abbrev pub ended_told : (skew transit : ℕ) → Ref → Lasting → LineReading → List Told
ended_told skew transit r (For seconds) m =
    if seconds == 4294967295 then endless_told r else ended_by skew transit r seconds m
ended_told skew transit r (Until end) m = carried_by skew transit r end

-- that must be no later than the interval's beginning
abbrev pub early_told : (skew transit from : ℕ) → Ref → ToldDelegation → List Ref → Option LineReading → List Told
early_told skew transit from r t chain None = no_chain r
early_told skew transit from r t chain (Some m) =
    chain_told chain ++ ended_told skew transit r t.delegation.lasting m ++ must from

-- ---- it began after

-- what is carried doesn't show when it began
abbrev pub late_told : Ref → Lasting → List Told
late_told r (For seconds) = []
late_told r (Until end) = item (word.Line r ∷ []) ∷ []

-- ---- it was given back before

abbrev pub gives_back_told : Ref → Ref → List Told
gives_back_told r release = item (word.Line release ∷ word.Line r ∷ []) ∷ []

-- ---- why it stands outside of the interval

abbrev pub outside_told : (skew transit : ℕ) → Certificate → Ref → ToldDelegation → ForeignEvidence → List Told
outside_told skew transit c r t (Early chain m) = early_told skew transit c.from r t chain.now m
outside_told skew transit c r t (Late chain m) =
    written_from skew r chain.now m ++ must c.to ++ late_told r t.delegation.lasting
outside_told skew transit c r t (Released release back order chain m) =
    gives_back_told r release ++ order_told skew r release order
    ++ written_by skew release chain.now m ++ must c.from

abbrev pub why_told : (skew transit : ℕ) → Certificate → Ref → Option ToldDelegation → ForeignEvidence → List Told
why_told skew transit c r None outside = []
why_told skew transit c r (Some t) outside = outside_told skew transit c r t outside

abbrev pub foreign_told : (skew transit : ℕ) → Certificate → ForeignReport → List Told
foreign_told skew transit c f =
    (heading (word.Line f.entry.now.grant ∷ []) ∷ [])
    ++ told_told f.entry.now.grant f.told ++ why_told skew transit c f.entry.now.grant f.told f.outside
