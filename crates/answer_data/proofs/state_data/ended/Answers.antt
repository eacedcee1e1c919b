use Rattle.std.proofs.Common.{codes, refl}
use Rattle.serde_json.specs.Data.{string}
use Rattle.serde_json.specs.View.{members_view}
use Rattle.candidate_leases.specs.declared.at_moment.AtMoment.TheVariants as state
use Rattle.report_data.specs.Rulings.{With, IsObject, IsTime}
use Rattle.report_data.proofs.Steps.{stepped, begun_with, finished}
use Rattle.answer_data.specs.Leases.{IsStateOf}
use Rattle.answer_data.specs.Members.{IsString}
use Rattle.answer_data.proofs.state_data.ended.Goals as goal

pub returns : goal.returns
returns c =
    finished (λ f. members_view f.entries) (λ d. IsStateOf (codes "ended") (With (codes "by") (IsTime
    c.args.end) (IsObject d))) c.with_made.result.fields c.into_value.result c.into_value.ensures (λ d is.
    (begun_with (λ f. members_view f.entries) (codes "is") (string (codes "ended")) (IsString (codes "ended"))
    (With (codes "by") (IsTime c.args.end) (IsObject d)) c.state.result.fields c.state.ensures refl (stepped (λ
    f. members_view f.entries) (codes "by") (IsTime c.args.end) (IsObject d) c.state.result.fields
    c.with_made.result.fields c.time_of.result c.with_made.ensures c.time_of.ensures is)))
