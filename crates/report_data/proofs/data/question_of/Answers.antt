use Rattle.std.proofs.Common.{codes, ℕ, subst}
use Rattle.std.specs.Prelude.{IfOk}
use Rattle.serde_json.specs.View.{view, members_view}
use Rattle.text_fields.specs.Octets.{hex}
use Rattle.prefix_range.specs.Text.{prefix_text}
use Rattle.report_data.specs.Fields.{IsText}
use Rattle.report_data.specs.Rulings.{With, IsObject, IsTime, IsQuestion}
use Rattle.report_data.proofs.Steps.{stepped, begun, finished}
use Rattle.report_data.proofs.data.question_of.Goals as goal

pub returns : goal.returns
returns c =
    let q = c.args.certificate.now in
    let to = subst (λ (n : ℕ). IfOk c.time_of-2.result (λ v. IsTime n (view v))) c.milliseconds-2.ensures.value
    c.time_of-2.ensures in
    let from = subst (λ (n : ℕ). IfOk c.time_of.result (λ v. IsTime n (view v))) c.milliseconds.ensures.value
    c.time_of.ensures in
    finished (λ f. members_view f.entries) (IsQuestion q) c.with_made-4.result.fields c.into_value.result
    c.into_value.ensures (λ d is.
    begun (λ f. members_view f.entries) (With (codes "holder") (IsText (hex q.holder))
    (With (codes "prefix") (IsText (prefix_text q.prefix)) (With (codes "from") (IsTime q.from)
    (With (codes "to") (IsTime q.to) (IsObject d))))) c.new.result.fields c.new.ensures
    (stepped (λ f. members_view f.entries) (codes "holder") (IsText (hex q.holder))
    (With (codes "prefix") (IsText (prefix_text q.prefix)) (With (codes "from") (IsTime q.from)
    (With (codes "to") (IsTime q.to) (IsObject d)))) c.new.result.fields c.with_made.result.fields c.client_of.result
    c.with_made.ensures c.client_of.ensures
    (stepped (λ f. members_view f.entries) (codes "prefix") (IsText (prefix_text q.prefix))
    (With (codes "from") (IsTime q.from) (With (codes "to") (IsTime q.to) (IsObject d)))
    c.with_made.result.fields c.with_made-2.result.fields c.prefix_of.result c.with_made-2.ensures c.prefix_of.ensures
    (stepped (λ f. members_view f.entries) (codes "from") (IsTime q.from) (With (codes "to") (IsTime q.to) (IsObject d))
    c.with_made-2.result.fields c.with_made-3.result.fields c.time_of.result c.with_made-3.ensures from
    (stepped (λ f. members_view f.entries) (codes "to") (IsTime q.to) (IsObject d)
    c.with_made-3.result.fields c.with_made-4.result.fields c.time_of-2.result c.with_made-4.ensures to is)))))
