use Rattle.std.proofs.Common.{codes, ℕ, Option, ◌+◌, subst}
use Rattle.std.specs.Prelude.{IfOk}
use Rattle.serde_json.specs.View.{view, members_view}
use Rattle.attribution.specs.declared.delegation.Lasting.TheVariants.{For}
use Rattle.candidate_leases.specs.Near.{shows_to}
use Rattle.report_data.specs.Rulings.{With, IsObject, IsTime}
use Rattle.report_data.proofs.Steps.{stepped, begun, finished}
use Rattle.answer_data.specs.Leases.{IsShownFor}
use Rattle.answer_data.specs.Members.{IsMoment}
use Rattle.answer_data.proofs.lease_data.shown_for.Goals as goal

pub returns : goal.returns
returns c =
    finished (λ f. members_view f.entries) (IsShownFor c.args.query.now c.args.reading (For c.args.valid))
    c.with_made-2.result.fields c.into_value.result c.into_value.ensures (λ d is. (begun (λ f. members_view
    f.entries) (With (codes "from") (IsTime (c.args.reading + c.args.query.now.skew + c.args.query.now.transit))
    (With (codes "to") (IsMoment (shows_to c.args.query.now.skew c.args.reading c.args.valid)) (IsObject d)))
    c.new.result.fields c.new.ensures (stepped (λ f. members_view f.entries) (codes "from") (IsTime
    (c.args.reading + c.args.query.now.skew + c.args.query.now.transit)) (With (codes "to") (IsMoment (shows_to
    c.args.query.now.skew c.args.reading c.args.valid)) (IsObject d)) c.new.result.fields
    c.with_made.result.fields c.time_of.result c.with_made.ensures (subst (λ (n : ℕ). IfOk c.time_of.result (λ
    v. IsTime n (view v))) c.begun_by-from.ensures c.time_of.ensures) (stepped (λ f. members_view f.entries)
    (codes "to") (IsMoment (shows_to c.args.query.now.skew c.args.reading c.args.valid)) (IsObject d)
    c.with_made.result.fields c.with_made-2.result.fields c.moment_or_null.result c.with_made-2.ensures (subst
    (λ (m : Option ℕ). IfOk c.moment_or_null.result (λ v. IsMoment m (view v))) c.lasts_from-to.ensures
    c.moment_or_null.ensures) is))))
