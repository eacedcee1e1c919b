use Rattle.std.proofs.Common.{codes, [], ◌∷◌, refl}
use Rattle.serde_json.specs.Data.{string}
use Rattle.serde_json.specs.View.{members_view}
use Rattle.candidate_leases.specs.declared.why.NoHolderReason.TheVariants as reason
use Rattle.report_data.specs.Rulings.{With, IsObject}
use Rattle.report_data.proofs.Steps.{stepped, begun_with, finished}
use Rattle.answer_data.specs.Members.{IsString, IsLine}
use Rattle.answer_data.specs.Reasons.{IsReasonOf}
use Rattle.answer_data.specs.Texts.{IsArrayOf}
use Rattle.answer_data.proofs.reason_data.several.Goals as goal

pub returns : goal.returns
returns c =
    finished (λ f. members_view f.entries) (λ d. IsReasonOf (codes "several") (With (codes "lines") (IsArrayOf
    IsLine (c.args.first ∷ c.args.other ∷ [])) (IsObject d))) c.with_made.result.fields c.into_value.result
    c.into_value.ensures (λ d is. (begun_with (λ f. members_view f.entries) (codes "reason") (string (codes
    "several")) (IsString (codes "several")) (With (codes "lines") (IsArrayOf IsLine (c.args.first ∷
    c.args.other ∷ [])) (IsObject d)) c.reason.result.fields c.reason.ensures refl (stepped (λ f. members_view
    f.entries) (codes "lines") (IsArrayOf IsLine (c.args.first ∷ c.args.other ∷ [])) (IsObject d)
    c.reason.result.fields c.with_made.result.fields c.both_lines.result c.with_made.ensures
    c.both_lines.ensures is)))
