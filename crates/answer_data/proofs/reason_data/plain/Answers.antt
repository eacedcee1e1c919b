use Rattle.std.proofs.Common.{codes, refl}
use Rattle.serde_json.specs.Data.{string}
use Rattle.serde_json.specs.View.{members_view}
use Rattle.candidate_leases.specs.declared.why.NoHolderReason.TheVariants as reason
use Rattle.report_data.specs.Rulings.{IsObject}
use Rattle.report_data.proofs.Steps.{begun_with, finished}
use Rattle.answer_data.specs.Members.{IsString}
use Rattle.answer_data.specs.Reasons.{IsReasonOf}
use Rattle.answer_data.proofs.reason_data.plain.Goals as goal

pub returns : goal.returns
returns c =
    finished (λ f. members_view f.entries) (λ d. IsReasonOf c.args.name.now (IsObject d)) c.reason.result.fields
    c.into_value.result c.into_value.ensures (λ d is. (begun_with (λ f. members_view f.entries) (codes "reason")
    (string c.args.name.now) (IsString c.args.name.now) (IsObject d) c.reason.result.fields c.reason.ensures
    refl is))
