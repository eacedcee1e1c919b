-- Why nobody is named, as one object.
use Rattle.std.specs.Prelude.{◌≡◌, List, ℕ, Option, codes}
use Rattle.serde_json.specs.Data.{Data, null, no_members}
use Rattle.prefix_range.specs.Text.{prefix_text}
use Rattle.plain_search.specs.declared.query.HolderQuery.{HolderQuery}
use Rattle.volume_spans.specs.declared.span.SpanPair.{SpanPair}
use Rattle.holder_answers.specs.declared.answer.NoHolder.{NoHolder}
use Rattle.holder_answers.specs.declared.answer.HolderAnswer.{HolderAnswer}
use Rattle.holder_answers.specs.declared.answer.HolderAnswer.TheVariants.{Held, Refused, NotNamed, TooLong}
use Rattle.report_data.specs.Fields.{IsText, IsLineOf}
use Rattle.report_data.specs.Rulings.{With, IsObject, IsCount, IsTime}
use Rattle.answer_data.specs.Leases.{AreLeases}
use Rattle.answer_data.specs.Reasons.{IsReason}
use Rattle.answer_data.specs.Texts.{without_feed}
use Rattle.answer_data.specs.Volumes.{IsVolumesData}

-- what was asked, the line that answers it, and these values of why, of leases and of volumes
abbrev pub IsUnnamedData : HolderQuery → (answer : List ℕ) → (why leases volumes d : Data) → Type 0
IsUnnamedData q answer why leases volumes d = With (codes "format") (IsCount 1) (With (codes "answer") (IsText answer)
    (With (codes "prefix") (IsText (prefix_text q.prefix)) (With (codes "at") (IsTime q.at)
    (With (codes "skew_ms") (IsCount q.skew) (With (codes "transit_ms") (IsCount q.transit)
    (With (codes "why") (λ v. v ≡ why) (With (codes "leases") (λ v. v ≡ leases)
    (With (codes "volumes") (λ v. v ≡ volumes) (IsObject d))))))))) no_members

abbrev pub IsUnnamedLine : HolderQuery → (answer : List ℕ) → (why leases volumes : Data) → (text : List ℕ) → Type 0
IsUnnamedLine q answer why leases volumes text =
    (d : Data) × IsUnnamedData q answer why leases volumes d × IsLineOf d text

-- a line that answers, and no reason
pub record IsLineData (q : HolderQuery) (line : List ℕ) (volumes : Option SpanPair) (text : List ℕ) : Type 0 where
  pub over : Data
  pub over_is : IsVolumesData volumes over
  pub written : IsUnnamedLine q (without_feed line) null null over text

-- with the reason, and the delegations near the moment
pub record IsReasonData (q : HolderQuery) (line : List ℕ) (none : NoHolder) (volumes : Option SpanPair) (text : List ℕ)
    : Type 0 where
  pub why : Data
  pub why_is : IsReason none.why why
  pub near : Data
  pub near_are : AreLeases q none.leases.items near
  pub over : Data
  pub over_is : IsVolumesData volumes over
  pub written : IsUnnamedLine q (without_feed line) why near over text

-- of an answer that names nobody; where journals are refused there is no reason
abbrev pub IsWhyData : HolderQuery → (line : List ℕ) → HolderAnswer → Option SpanPair → (text : List ℕ) → Type 0
IsWhyData q line (Held certificate) volumes text = IsLineData q line volumes text
IsWhyData q line (Refused ruling) volumes text = IsLineData q line volumes text
IsWhyData q line (NotNamed none) volumes text = IsReasonData q line none volumes text
IsWhyData q line (TooLong none) volumes text = IsReasonData q line none volumes text
