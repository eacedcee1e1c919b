use Rattle.std.proofs.Common.{codes, refl}
use Rattle.serde_json.specs.Data.{string}
use Rattle.serde_json.specs.View.{members_view}
use Rattle.candidate_leases.specs.declared.at_moment.AtMoment.TheVariants as state
use Rattle.report_data.specs.Rulings.{With, IsObject}
use Rattle.report_data.proofs.Steps.{stepped, begun_with, finished}
use Rattle.answer_data.specs.Leases.{IsGivenBack}
use Rattle.answer_data.specs.Members.{IsString, IsLine}
use Rattle.answer_data.proofs.state_data.given_back.Goals as goal

pub returns : goal.returns
returns c =
    finished (λ f. members_view f.entries) (IsGivenBack c.args.name.now (IsLine c.args.release))
    c.with_made.result.fields c.into_value.result c.into_value.ensures (λ d is. (begun_with (λ f. members_view
    f.entries) (codes "is") (string c.args.name.now) (IsString c.args.name.now) (With (codes "release") (IsLine
    c.args.release) (IsObject d)) c.state.result.fields c.state.ensures refl (stepped (λ f. members_view
    f.entries) (codes "release") (IsLine c.args.release) (IsObject d) c.state.result.fields
    c.with_made.result.fields c.line_of.result c.with_made.ensures c.line_of.ensures is)))
