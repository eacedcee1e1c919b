-- What is told of the question and its premises.
use Rattle.std.specs.Prelude.{ℕ, ◌+◌, nat_le, if◌then◌else◌, List, [], ◌∷◌, ◌++◌, Option, Some, None}
use Rattle.binding_rules.specs.declared.role.Role.{Role}
use Rattle.causal_order.specs.declared.certificate.Certificate.{Certificate}
use Rattle.evidence_report.specs.declared.report.SideReport.{SideReport}
use Rattle.report_document.specs.declared.word.ReportWord.TheVariants as word
use Rattle.report_document.specs.Telling.{Told, heading, paragraph, item}

-- who is said to have had what, from when up to when
abbrev pub question_told : Certificate → List Told
question_told c =
    heading []
    ∷ paragraph (word.Client c.holder ∷ word.Prefix c.prefix ∷ word.Moment c.from ∷ word.Moment c.to ∷ []) ∷ []

abbrev pub premises_told : (skew transit : ℕ) → List Told
premises_told skew transit = heading [] ∷ paragraph (word.Milliseconds skew ∷ word.Milliseconds transit ∷ []) ∷ []

-- the side's close line must be at or past the interval's end and the skew
abbrev pub closed_told : (skew to : ℕ) → Role → SideReport → List Told
closed_told skew to side r =
    item (
    word.Side side ∷ word.Number r.volume ∷ word.Reading r.closed
    ∷ word.Number to ∷ word.Number skew ∷ word.Reading (to + skew) ∷ []
    ) ∷ []

-- the answers of earlier volumes had reached their clients by the reading at the side's first line, the skew and the
-- transit; that must be no later than the interval's beginning
abbrev pub opened_at : (skew transit from : ℕ) → Role → (opened : ℕ) → List Told
opened_at skew transit from side opened =
    item (
    word.Side side ∷ word.Reading opened
    ∷ word.Number opened ∷ word.Number skew ∷ word.Number transit
    ∷ word.Moment (opened + skew + transit) ∷ word.Moment from ∷ []
    ) ∷ []

abbrev pub opened_by : (skew transit from : ℕ) → Role → Option ℕ → List Told
opened_by skew transit from side None = []
opened_by skew transit from side (Some opened) = opened_at skew transit from side opened

-- that, where the side has earlier volumes
abbrev pub opened_told : (skew transit from : ℕ) → Role → SideReport → List Told
opened_told skew transit from side r =
    if nat_le r.volume 1 then [] else opened_by skew transit from side r.opened

abbrev pub side_told : (skew transit : ℕ) → Certificate → Role → SideReport → List Told
side_told skew transit c side r = closed_told skew c.to side r ++ opened_told skew transit c.from side r
