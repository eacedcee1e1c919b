use Rattle.std.proofs.Common.{◌≡◌, codes, refl}
use Rattle.serde_json.specs.Data.{number, unsigned, string}
use Rattle.serde_json.specs.View.{view, members_view}
use Rattle.candidate_leases.specs.declared.why.NoHolderReason.TheVariants as reason
use Rattle.report_data.specs.Rulings.{With, IsObject, IsCount}
use Rattle.report_data.proofs.Steps.{stepped_by, begun_with, finished}
use Rattle.answer_data.specs.Members.{IsString}
use Rattle.answer_data.specs.Reasons.{IsReason}
use Rattle.answer_data.proofs.reason_data.several_customers.Goals as goal

pub returns : goal.returns
returns c =
    finished (λ f. members_view f.entries) (IsReason (reason.SeveralCustomers c.args.unit_length))
    c.with.result.fields c.into_value.result c.into_value.ensures (λ d is. (begun_with (λ f. members_view
    f.entries) (codes "reason") (string (codes "several_customers")) (IsString (codes "several_customers"))
    (With (codes "unit_length") (IsCount c.args.unit_length) (IsObject d)) c.reason.result.fields
    c.reason.ensures refl (stepped_by (λ n v. view v ≡ number (unsigned n)) (λ f. members_view f.entries) (codes
    "unit_length") c.args.unit_length (IsCount c.args.unit_length) (IsObject d) c.reason.result.fields
    c.with.result.fields c.with.ensures (λ v g. g) is)))
