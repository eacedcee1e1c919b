use Rattle.std.proofs.Common.{codes, refl}
use Rattle.serde_json.specs.Data.{string}
use Rattle.serde_json.specs.View.{members_view}
use Rattle.candidate_leases.specs.declared.why.NoHolderReason.TheVariants as reason
use Rattle.report_data.specs.Rulings.{With, IsObject}
use Rattle.report_data.proofs.Steps.{stepped, begun_with, finished}
use Rattle.answer_data.specs.Members.{IsString, IsLine}
use Rattle.answer_data.specs.Reasons.{IsReasonOf}
use Rattle.answer_data.proofs.reason_data.carried.Goals as goal

pub returns : goal.returns
returns c =
    finished (λ f. members_view f.entries) (λ d. IsReasonOf (codes "carried") (With (codes "line") (IsLine
    c.args.line) (IsObject d))) c.with_made.result.fields c.into_value.result c.into_value.ensures (λ d is.
    (begun_with (λ f. members_view f.entries) (codes "reason") (string (codes "carried")) (IsString (codes
    "carried")) (With (codes "line") (IsLine c.args.line) (IsObject d)) c.reason.result.fields c.reason.ensures
    refl (stepped (λ f. members_view f.entries) (codes "line") (IsLine c.args.line) (IsObject d)
    c.reason.result.fields c.with_made.result.fields c.line_of.result c.with_made.ensures c.line_of.ensures
    is)))
