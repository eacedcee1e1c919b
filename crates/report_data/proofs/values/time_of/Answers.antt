use Rattle.std.specs.Prelude.{codes, ◌≡◌}
use Rattle.serde_json.specs.Data.{number, unsigned}
use Rattle.serde_json.specs.View.{view, members_view}
use Rattle.report_data.specs.Rulings.{With, IsObject, IsCount, IsUtc, IsTime}
use Rattle.report_data.proofs.Steps.{stepped, stepped_by, begun, finished}
use Rattle.report_data.proofs.values.time_of.Goals as goal

pub returns : goal.returns
returns c =
    let m = c.args.milliseconds in
    finished (λ f. members_view f.entries) (IsTime m) c.with_made.result.fields c.into_value.result c.into_value.ensures
    (λ d is.
    begun (λ f. members_view f.entries) (With (codes "ms") (IsCount m) (With (codes "utc") (IsUtc m) (IsObject d)))
    c.new.result.fields c.new.ensures
    (stepped_by (λ n v. view v ≡ number (unsigned n)) (λ f. members_view f.entries) (codes "ms") m (IsCount m)
    (With (codes "utc") (IsUtc m) (IsObject d)) c.new.result.fields c.with.result.fields c.with.ensures (λ v g. g)
    (stepped (λ f. members_view f.entries) (codes "utc") (IsUtc m) (IsObject d) c.with.result.fields
    c.with_made.result.fields c.utc_of.result c.with_made.ensures c.utc_of.ensures is)))
