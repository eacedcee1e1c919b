-- The object that a ruling is written as, member by member, in the order in which they are put in.
use Rattle.std.specs.Prelude.{◌≡◌, ⊤, ℕ, List, Option, Some, None, codes}
use Rattle.serde_json.specs.Data.{Data, Members, number, unsigned, object, null, no_members, put as with_member}
use Rattle.text_fields.specs.Octets.{hex}
use Rattle.prefix_range.specs.Text.{prefix_text}
use Rattle.causal_order.specs.declared.certificate.Certificate.{Certificate}
use Rattle.evidence_report.specs.declared.report.Report.{Report}
use Rattle.pair_judgement.specs.Judgements.{judgement_text}
use Rattle.report_document.specs.declared.document.Explanation.{Explanation}
use Rattle.time_text.specs.Time.{IsTimeText}
use Rattle.report_data.specs.Fields.{IsText, IsLineOf}

-- with a value of this form at this name the members are so
pub record With (name : List ℕ) (form : Data → Type 0) (so : Members → Type 0) (ms : Members) : Type 0 where
  pub value : Data
  pub is : form value
  pub then_so : so (with_member name value ms)

-- and these are all
abbrev pub IsObject : Data → Members → Type 0
IsObject d ms = d ≡ object ms

abbrev pub Any : Data → Type 0
Any d = ⊤

abbrev pub IsCount : ℕ → Data → Type 0
IsCount n d = d ≡ number (unsigned n)

-- what RFC 3339 writes for a moment in UTC; its milliseconds from the year 10000 on
abbrev pub IsUtc : ℕ → Data → Type 0
IsUtc moment d = (text : List ℕ) × IsTimeText moment text × IsText text d

-- a moment: an object of its milliseconds since 1970, and of that
abbrev pub IsTime : ℕ → Data → Type 0
IsTime moment d = With (codes "ms") (IsCount moment) (With (codes "utc") (IsUtc moment) (IsObject d)) no_members

-- whom a certificate names, and where and when
abbrev pub IsQuestion : Certificate → Data → Type 0
IsQuestion c d = With (codes "holder") (IsText (hex c.holder)) (With (codes "prefix") (IsText (prefix_text c.prefix))
    (With (codes "from") (IsTime c.from) (With (codes "to") (IsTime c.to) (IsObject d)))) no_members

-- what a certificate shows; what its parts say is evidence_report's
abbrev pub IsReportData : Report → Data → Type 0
IsReportData r d = With (codes "question") (IsQuestion r.certificate.now) (With (codes "skew_ms") (IsCount r.skew)
    (With (codes "transit_ms") (IsCount r.transit) (With (codes "journal_a") Any (With (codes "journal_b") Any
    (With (codes "pieces") Any (With (codes "foreign") Any (With (codes "lines") Any (IsObject d)))))))) no_members

-- or null where nothing of it was looked at
abbrev pub IsShownData : Option Report → Data → Type 0
IsShownData (Some r) d = IsReportData r d
IsShownData None d = d ≡ null

-- a ruling's text and what it rests on, with the certificate's text and the volumes that were asked
abbrev pub IsRulingData : (verdict : List ℕ) → (shown : Data → Type 0) → (certificate : List ℕ) → (volumes d : Data)
    → Type 0
IsRulingData verdict shown certificate volumes d = With (codes "format") (IsCount 1) (With (codes "verdict") (IsText verdict)
    (With (codes "failure") Any (With (codes "report") shown (With (codes "certificate") (IsText certificate)
    (With (codes "volumes") (λ v. v ≡ volumes) (IsObject d)))))) no_members

-- the object of an explanation, as a line
abbrev pub IsRulingLine : Explanation → (certificate : List ℕ) → (volumes : Data) → (line : List ℕ) → Type 0
IsRulingLine e certificate volumes line = (d : Data)
    × IsRulingData (judgement_text e.ruling) (IsShownData e.report) certificate volumes d × IsLineOf d line

-- and of a line that rules on the certificate's text alone
abbrev pub IsVerdictLine : (verdict certificate line : List ℕ) → Type 0
IsVerdictLine verdict certificate line = (d : Data)
    × IsRulingData verdict (λ report. report ≡ null) certificate null d × IsLineOf d line
