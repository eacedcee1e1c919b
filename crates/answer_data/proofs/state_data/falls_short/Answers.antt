use Rattle.std.proofs.Common.{◌≡◌, codes, refl}
use Rattle.serde_json.specs.Data.{number, unsigned, string}
use Rattle.serde_json.specs.View.{view, members_view}
use Rattle.candidate_leases.specs.declared.at_moment.AtMoment.TheVariants as state
use Rattle.report_data.specs.Rulings.{With, IsObject, IsCount, IsTime}
use Rattle.report_data.proofs.Steps.{stepped, stepped_by, begun_with, finished}
use Rattle.answer_data.specs.Leases.{FallsShort}
use Rattle.answer_data.specs.Members.{IsString}
use Rattle.answer_data.proofs.state_data.falls_short.Goals as goal

pub returns : goal.returns
returns c =
    finished (λ f. members_view f.entries) (FallsShort c.args.name.now c.args.key.now c.args.moment
    c.args.short) c.with.result.fields c.into_value.result c.into_value.ensures (λ d is. (begun_with (λ f.
    members_view f.entries) (codes "is") (string c.args.name.now) (IsString c.args.name.now) (With
    c.args.key.now (IsTime c.args.moment) (With (codes "short_ms") (IsCount c.args.short) (IsObject d)))
    c.state.result.fields c.state.ensures refl (stepped (λ f. members_view f.entries) c.args.key.now (IsTime
    c.args.moment) (With (codes "short_ms") (IsCount c.args.short) (IsObject d)) c.state.result.fields
    c.with_made.result.fields c.time_of.result c.with_made.ensures c.time_of.ensures (stepped_by (λ n v. view v
    ≡ number (unsigned n)) (λ f. members_view f.entries) (codes "short_ms") c.args.short (IsCount c.args.short)
    (IsObject d) c.with_made.result.fields c.with.result.fields c.with.ensures (λ v g. g) is))))
