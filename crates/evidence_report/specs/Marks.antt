-- What is shown of single lines, chains and orders.
use Rattle.std.specs.Prelude.{◌≡◌, ◌↔◌, ℕ, ◌≤◌, IsTrue, List, ◌∷◌, length, Option, Some, None, option_map}
use Rattle.journal_lines.specs.declared.event.Lease.{Lease}
use Rattle.journal_lines.specs.declared.line.Line.{Line}
use Rattle.causal_order.specs.declared.reference.Ref.{Ref}
use Rattle.causal_order.specs.declared.order.Precedes.{Precedes}
use Rattle.causal_order.specs.declared.order.Precedes.TheVariants.{Chain as ChainOrder, Clock as ClockOrder}
use Rattle.causal_order.specs.Journals.{Journals, Names, line_of}
use Rattle.causal_order.specs.Order.{EndsWith, Leads, WrittenBy, WrittenFrom}
use Rattle.attribution.specs.declared.delegation.Delegation.{Delegation}
use Rattle.attribution.specs.Acceptance.{Grants, Tells}
use Rattle.evidence_report.specs.declared.mark.LineReading.{LineReading}
use Rattle.evidence_report.specs.declared.mark.OrderReport.{OrderReport}
use Rattle.evidence_report.specs.declared.mark.OrderReport.TheVariants.{Chain, Clock}
use Rattle.evidence_report.specs.declared.piece_report.ReportedGrant.{ReportedGrant}
use Rattle.evidence_report.specs.declared.foreign_report.ReportedDelegation.{ReportedDelegation}

-- the clock showed this reading when the line was written
abbrev pub Reads : Journals → Ref → ℕ → Type 0
Reads js r reading = (l : Line) × Names js r l × (l.reading ≡ reading)

-- the chain's first reference is r
abbrev pub BeginsWith : List Ref → Ref → Type 0
BeginsWith chain r = (rest : List Ref) × (chain ≡ r ∷ rest)

-- the last line of the chain from r: by its reading and the skew r was written; none where it is no chain from r
abbrev pub IsLatestMark : Journals → List Ref → Ref → Option LineReading → Type 0
IsLatestMark js chain r None = (x : ℕ) → WrittenBy js chain r x → ⊥
IsLatestMark js chain r (Some m) = WrittenBy js chain r m.reading × EndsWith chain m.at

-- the first line of the chain to r: at its reading less the skew, or later, r was written; none where it is no chain to
-- r
abbrev pub IsEarliestMark : Journals → List Ref → Ref → Option LineReading → Type 0
IsEarliestMark js chain r None = (x : ℕ) → WrittenFrom js chain r x → ⊥
IsEarliestMark js chain r (Some m) = WrittenFrom js chain r m.reading × BeginsWith chain m.at

-- what the line grants, with its reading; or it grants nothing
abbrev pub IsGrantedAt : Journals → Ref → Option ReportedGrant → Type 0
IsGrantedAt js r None = (g : Lease) → Grants js r g → ⊥
IsGrantedAt js r (Some shown) = Grants js r shown.lease × Reads js r shown.reading

-- the delegation that the line tells of, with its reading; or it tells of none
abbrev pub IsToldAt : Journals → Ref → Option ReportedDelegation → Type 0
IsToldAt js r None = (d : Delegation) → Tells js r d → ⊥
IsToldAt js r (Some shown) = Tells js r shown.delegation × Reads js r shown.reading

-- what is shown of why r came before s: whether the chain leads from the one to the other, by two lines or more; or the
-- readings at the far ends of both chains
abbrev pub IsOrderReport : Journals → Precedes → (r s : Ref) → OrderReport → Type 0
IsOrderReport js (ChainOrder chain) r s (Chain shown leads) =
    (shown.now ≡ chain) × (IsTrue leads ↔ (Leads js chain r s × (2 ≤ length chain)))
IsOrderReport js (ClockOrder first second) r s (Clock before latest after earliest) =
    (before.now ≡ first) × IsLatestMark js first r latest × (after.now ≡ second) × IsEarliestMark js second s earliest
IsOrderReport js _ r s _ = ⊥

-- ---- for bodies

-- the reference names a line
abbrev pub Exists : Journals → Ref → Type 0
Exists js r = (l : Line) × Names js r l

-- the line that the reference names, with its reading
abbrev pub mark_of : Journals → Ref → Option LineReading
mark_of js r = option_map (λ l. record { at = r; reading = l.reading }) (line_of js r)
