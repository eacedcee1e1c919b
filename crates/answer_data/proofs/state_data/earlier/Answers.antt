use Rattle.std.proofs.Common.{◌≡◌, codes, ℕ, List, refl, subst}
use Rattle.serde_json.specs.Data.{string}
use Rattle.serde_json.specs.View.{view, members_view}
use Rattle.candidate_leases.specs.declared.at_moment.AtMoment.TheVariants as state
use Rattle.report_data.specs.Rulings.{With, IsObject, IsTime}
use Rattle.report_data.proofs.Steps.{stepped, stepped_by, begun_with, finished}
use Rattle.answer_data.specs.Leases.{IsState}
use Rattle.answer_data.specs.Members.{IsString, IsSide}
use Rattle.answer_data.proofs.state_data.earlier.Goals as goal

pub returns : goal.returns
returns c at =
    finished (λ f. members_view f.entries) (IsState at (state.EarlierVolumes c.args.side c.args.needed))
    c.with_made.result.fields c.into_value.result c.into_value.ensures (λ d is. (begun_with (λ f. members_view
    f.entries) (codes "is") (string (codes "earlier_volumes")) (IsString (codes "earlier_volumes")) (With (codes
    "side") (IsSide c.args.side) (With (codes "needed") (IsTime c.args.needed) (IsObject d)))
    c.state.result.fields c.state.ensures refl (stepped_by (λ x v. view v ≡ string x.now) (λ f. members_view
    f.entries) (codes "side") c.side_of.result (IsSide c.args.side) (With (codes "needed") (IsTime
    c.args.needed) (IsObject d)) c.state.result.fields c.with.result.fields c.with.ensures (λ v g. subst (λ (x :
    List ℕ). IsString x (view v)) c.side_of.ensures g) (stepped (λ f. members_view f.entries) (codes "needed")
    (IsTime c.args.needed) (IsObject d) c.with.result.fields c.with_made.result.fields c.time_of.result
    c.with_made.ensures c.time_of.ensures is))))
