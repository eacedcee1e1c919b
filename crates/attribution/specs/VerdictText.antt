-- The line that a verdict is printed as.
use Rattle.std.specs.Prelude.{ℕ, List, [], ◌∷◌, ◌++◌, codes}
use Rattle.std.specs.Fmt.{decimal}
use Rattle.binding_rules.specs.declared.role.Role.{Role}
use Rattle.binding_rules.specs.declared.role.Role.TheVariants.{Primary, Secondary}
use Rattle.journal_lines.specs.declared.fault.JournalFault.{JournalFault}
use Rattle.journal_lines.specs.declared.fault.JournalFault.TheVariants.{Head, Form, Number, Reading, End}
use Rattle.causal_order.specs.declared.fault.CertificateFault.{CertificateFault}
use Rattle.causal_order.specs.declared.fault.CertificateFault.TheVariants.{Head as NoHead, Form as NoForm, End as NoEnd}
use Rattle.book_rules.specs.Rules.{rule_number}
use Rattle.attribution.specs.declared.verdict.Verdict.{Verdict}
use Rattle.attribution.specs.declared.verdict.Verdict.TheVariants.{Accepted, Journal, Certificate, Rule, Unsent}
use Rattle.attribution.specs.declared.verdict.Verdict.TheVariants.{Differs, Circular, EmptyInterval, PastEnd, PieceGap}
use Rattle.attribution.specs.declared.verdict.Verdict.TheVariants.{PieceGrant, BeforeOpen, PieceRelease, Uncovered}
use Rattle.attribution.specs.declared.verdict.Verdict.TheVariants.{Reason}

-- the primary is side A
abbrev pub side_text : Role → List ℕ
side_text Primary = codes "A"
side_text Secondary = codes "B"

-- a side and the number of a line
abbrev pub place_text : Role → ℕ → List ℕ
place_text side number = side_text side ++ decimal number

abbrev pub journal_refusal : Role → JournalFault → List ℕ
journal_refusal side Head = codes "J1 Head " ++ side_text side
journal_refusal side (Form line) = codes "J2 Form " ++ place_text side line
journal_refusal side (Number line) = codes "J3 Number " ++ place_text side line
journal_refusal side (Reading line) = codes "J4 Reading " ++ place_text side line
journal_refusal side End = codes "J5 End " ++ side_text side

abbrev pub certificate_refusal : CertificateFault → List ℕ
certificate_refusal NoHead = codes "C1 Head"
certificate_refusal (NoForm line) = codes "C2 Form " ++ decimal line
certificate_refusal NoEnd = codes "C3 End"

abbrev pub verdict_text : Verdict → List ℕ
verdict_text Accepted = codes "accepted"
verdict_text (Journal side fault) = codes "refused " ++ journal_refusal side fault
verdict_text (Certificate fault) = codes "refused " ++ certificate_refusal fault
verdict_text (Rule side line rule) =
    codes "refused L1 Rule " ++ place_text side line ++ codes " " ++ decimal (rule_number rule)
verdict_text (Unsent r) = codes "refused X1 Unsent " ++ place_text r.side r.number
verdict_text (Differs r) = codes "refused X2 Differs " ++ place_text r.side r.number
verdict_text Circular = codes "refused X3 Circular"
verdict_text EmptyInterval = codes "refused C4 EmptyInterval"
verdict_text (PastEnd side) = codes "refused C5 PastEnd " ++ side_text side
verdict_text (PieceGap n) = codes "refused C6 PieceGap " ++ decimal n
verdict_text (PieceGrant n) = codes "refused C7 PieceGrant " ++ decimal n
verdict_text BeforeOpen = codes "refused C11 BeforeOpen"
verdict_text (PieceRelease n r) =
    codes "refused C8 PieceRelease " ++ decimal n ++ codes " " ++ place_text r.side r.number
verdict_text (Uncovered r) = codes "refused C9 Uncovered " ++ place_text r.side r.number
verdict_text (Reason r) = codes "refused C10 Reason " ++ place_text r.side r.number

-- the verdict and a line feed
abbrev pub verdict_line : Verdict → List ℕ
verdict_line v = verdict_text v ++ 10 ∷ []
