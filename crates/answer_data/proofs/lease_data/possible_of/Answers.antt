use Rattle.std.proofs.Common.{codes, ℕ, Option, subst}
use Rattle.std.specs.Prelude.{IfOk}
use Rattle.serde_json.specs.View.{view, members_view}
use Rattle.candidate_leases.specs.Near.{ends_by}
use Rattle.report_data.specs.Rulings.{With, IsObject}
use Rattle.report_data.proofs.Steps.{stepped, begun, finished}
use Rattle.answer_data.specs.Leases.{IsPossibleFor}
use Rattle.answer_data.specs.Leases.{begins_from}
use Rattle.answer_data.specs.Members.{IsMoment}
use Rattle.answer_data.proofs.lease_data.possible_of.Goals as goal

pub returns : goal.returns
returns c =
    finished (λ f. members_view f.entries) (IsPossibleFor c.args.query.now c.args.reading c.args.lasting.now)
    c.with_made-2.result.fields c.into_value.result c.into_value.ensures (λ d is. (begun (λ f. members_view
    f.entries) (With (codes "from") (IsMoment (begins_from c.args.query.now c.args.reading c.args.lasting.now))
    (With (codes "to") (IsMoment (ends_by c.args.query.now.skew c.args.query.now.transit c.args.reading
    c.args.lasting.now)) (IsObject d))) c.new.result.fields c.new.ensures (stepped (λ f. members_view f.entries)
    (codes "from") (IsMoment (begins_from c.args.query.now c.args.reading c.args.lasting.now)) (With (codes
    "to") (IsMoment (ends_by c.args.query.now.skew c.args.query.now.transit c.args.reading c.args.lasting.now))
    (IsObject d)) c.new.result.fields c.with_made.result.fields c.moment_or_null.result c.with_made.ensures
    (subst (λ (m : Option ℕ). IfOk c.moment_or_null.result (λ v. IsMoment m (view v)))
    c.begins_from-from.ensures c.moment_or_null.ensures) (stepped (λ f. members_view f.entries) (codes "to")
    (IsMoment (ends_by c.args.query.now.skew c.args.query.now.transit c.args.reading c.args.lasting.now))
    (IsObject d) c.with_made.result.fields c.with_made-2.result.fields c.moment_or_null-2.result
    c.with_made-2.ensures (subst (λ (m : Option ℕ). IfOk c.moment_or_null-2.result (λ v. IsMoment m (view v)))
    c.ends_by-to.ensures c.moment_or_null-2.ensures) is))))
