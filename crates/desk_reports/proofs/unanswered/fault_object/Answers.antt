use Rattle.std.proofs.Common.{◌≡◌, codes, refl, List, ℕ, subst}
use Rattle.std.specs.Prelude.{string_bytes, IfOk}
use Rattle.serde_json.specs.Data.{number, unsigned}
use Rattle.serde_json.specs.View.{view, members_view}
use Rattle.report_data.specs.Fields.{IsText}
use Rattle.report_data.specs.Rulings.{With, IsObject, IsCount}
use Rattle.report_data.proofs.Steps.{stepped, stepped_by, begun_with, lined}
use Rattle.desk_reports.specs.Unanswered.{unended, IsFaultData}
use Rattle.desk_reports.proofs.unanswered.fault_object.Goals as goal

pub returns : goal.returns
returns c =
    let line = unended c.args.line.now in
    let said = subst (λ (text : List ℕ). IfOk c.text_of.result (λ v. IsText text (view v))) c.unended.ensures
    c.text_of.ensures in
    lined (λ f. members_view f.entries) string_bytes (IsFaultData c.args.line.now) c.with.result.fields
    c.into_line.result c.into_line.ensures (λ d is.
    begun_with (λ f. members_view f.entries) (codes "format") (number (unsigned 1)) (IsCount 1)
    (With (codes "fault") (IsText line) (With (codes "status") (IsCount 2) (IsObject d)))
    c.answer.result.fields c.answer.ensures refl
    (stepped (λ f. members_view f.entries) (codes "fault") (IsText line) (With (codes "status") (IsCount 2) (IsObject d))
    c.answer.result.fields c.with_made.result.fields c.text_of.result c.with_made.ensures said
    (stepped_by (λ x v. view v ≡ number (unsigned x)) (λ f. members_view f.entries) (codes "status") 2 (IsCount 2)
    (IsObject d) c.with_made.result.fields c.with.result.fields c.with.ensures (λ v g. g) is)))
