use Rattle.std.proofs.Common.{◌≡◌, codes, ℕ, refl, subst}
use Rattle.std.specs.Prelude.{IfOk, Ok, string_bytes}
use Rattle.serde_json.specs.Data.{number, unsigned}
use Rattle.serde_json.specs.View.{view, members_view}
use Rattle.prefix_range.specs.Text.{prefix_text}
use Rattle.report_data.specs.Fields.{IsText}
use Rattle.report_data.specs.Rulings.{With, IsObject, IsCount, IsTime}
use Rattle.report_data.proofs.Steps.{stepped, stepped_by, begun_with, lined}
use Rattle.answer_data.specs.Unnamed.{IsUnnamedData}
use Rattle.answer_data.proofs.unnamed.written.Goals as goal

pub returns : goal.returns
returns c =
    lined (λ f. members_view f.entries) string_bytes (IsUnnamedData c.args.query.now c.args.answer.now (view
    c.args.why) (view c.args.leases) (view c.args.volumes)) c.with_made-6.result.fields c.into_line.result
    c.into_line.ensures (λ d is. (begun_with (λ f. members_view f.entries) (codes "format") (number (unsigned
    1)) (IsCount 1) (With (codes "answer") (IsText c.args.answer.now) (With (codes "prefix") (IsText
    (prefix_text c.args.query.now.prefix)) (With (codes "at") (IsTime c.args.query.now.at) (With (codes
    "skew_ms") (IsCount c.args.query.now.skew) (With (codes "transit_ms") (IsCount c.args.query.now.transit)
    (With (codes "why") (λ v. v ≡ view c.args.why) (With (codes "leases") (λ v. v ≡ view c.args.leases) (With
    (codes "volumes") (λ v. v ≡ view c.args.volumes) (IsObject d))))))))) c.answer.result.fields
    c.answer.ensures refl (stepped (λ f. members_view f.entries) (codes "answer") (IsText c.args.answer.now)
    (With (codes "prefix") (IsText (prefix_text c.args.query.now.prefix)) (With (codes "at") (IsTime
    c.args.query.now.at) (With (codes "skew_ms") (IsCount c.args.query.now.skew) (With (codes "transit_ms")
    (IsCount c.args.query.now.transit) (With (codes "why") (λ v. v ≡ view c.args.why) (With (codes "leases") (λ
    v. v ≡ view c.args.leases) (With (codes "volumes") (λ v. v ≡ view c.args.volumes) (IsObject d))))))))
    c.answer.result.fields c.with_made.result.fields c.text_of.result c.with_made.ensures c.text_of.ensures
    (stepped (λ f. members_view f.entries) (codes "prefix") (IsText (prefix_text c.args.query.now.prefix)) (With
    (codes "at") (IsTime c.args.query.now.at) (With (codes "skew_ms") (IsCount c.args.query.now.skew) (With
    (codes "transit_ms") (IsCount c.args.query.now.transit) (With (codes "why") (λ v. v ≡ view c.args.why) (With
    (codes "leases") (λ v. v ≡ view c.args.leases) (With (codes "volumes") (λ v. v ≡ view c.args.volumes)
    (IsObject d))))))) c.with_made.result.fields c.with_made-2.result.fields c.prefix_of.result
    c.with_made-2.ensures c.prefix_of.ensures (stepped (λ f. members_view f.entries) (codes "at") (IsTime
    c.args.query.now.at) (With (codes "skew_ms") (IsCount c.args.query.now.skew) (With (codes "transit_ms")
    (IsCount c.args.query.now.transit) (With (codes "why") (λ v. v ≡ view c.args.why) (With (codes "leases") (λ
    v. v ≡ view c.args.leases) (With (codes "volumes") (λ v. v ≡ view c.args.volumes) (IsObject d))))))
    c.with_made-2.result.fields c.with_made-3.result.fields c.time_of.result c.with_made-3.ensures (subst (λ (n
    : ℕ). IfOk c.time_of.result (λ v. IsTime n (view v))) c.milliseconds.ensures.value c.time_of.ensures)
    (stepped_by (λ n v. view v ≡ number (unsigned n)) (λ f. members_view f.entries) (codes "skew_ms")
    c.milliseconds-2.result (IsCount c.args.query.now.skew) (With (codes "transit_ms") (IsCount
    c.args.query.now.transit) (With (codes "why") (λ v. v ≡ view c.args.why) (With (codes "leases") (λ v. v ≡
    view c.args.leases) (With (codes "volumes") (λ v. v ≡ view c.args.volumes) (IsObject d)))))
    c.with_made-3.result.fields c.with.result.fields c.with.ensures (λ v g. subst (λ (n : ℕ). IsCount n (view
    v)) c.milliseconds-2.ensures.value g) (stepped_by (λ n v. view v ≡ number (unsigned n)) (λ f. members_view
    f.entries) (codes "transit_ms") c.milliseconds-3.result (IsCount c.args.query.now.transit) (With (codes
    "why") (λ v. v ≡ view c.args.why) (With (codes "leases") (λ v. v ≡ view c.args.leases) (With (codes
    "volumes") (λ v. v ≡ view c.args.volumes) (IsObject d)))) c.with.result.fields c.with-2.result.fields
    c.with-2.ensures (λ v g. subst (λ (n : ℕ). IsCount n (view v)) c.milliseconds-3.ensures.value g) (stepped (λ
    f. members_view f.entries) (codes "why") (λ v. v ≡ view c.args.why) (With (codes "leases") (λ v. v ≡ view
    c.args.leases) (With (codes "volumes") (λ v. v ≡ view c.args.volumes) (IsObject d))) c.with-2.result.fields
    c.with_made-4.result.fields (Ok c.args.why) c.with_made-4.ensures refl (stepped (λ f. members_view
    f.entries) (codes "leases") (λ v. v ≡ view c.args.leases) (With (codes "volumes") (λ v. v ≡ view
    c.args.volumes) (IsObject d)) c.with_made-4.result.fields c.with_made-5.result.fields (Ok c.args.leases)
    c.with_made-5.ensures refl (stepped (λ f. members_view f.entries) (codes "volumes") (λ v. v ≡ view
    c.args.volumes) (IsObject d) c.with_made-5.result.fields c.with_made-6.result.fields (Ok c.args.volumes)
    c.with_made-6.ensures refl is))))))))))
