use Rattle.std.proofs.Common.{◌≡◌, codes, refl}
use Rattle.std.specs.Prelude.{string_bytes}
use Rattle.serde_json.specs.Data.{number, unsigned, null}
use Rattle.serde_json.specs.View.{view, members_view}
use Rattle.report_data.specs.Fields.{IsText}
use Rattle.report_data.specs.Rulings.{With, IsObject, Any, IsCount, IsRulingData}
use Rattle.report_data.proofs.Steps.{stepped, stepped_by, begun_with, lined}
use Rattle.report_data.proofs.data.verdict_data.Goals as goal

pub returns : goal.returns
returns c =
    lined (λ f. members_view f.entries) string_bytes (IsRulingData c.args.verdict.now (λ report. report ≡ null)
    c.args.certificate.now null) c.with-3.result.fields c.into_line.result c.into_line.ensures (λ d is.
    begun_with (λ f. members_view f.entries) (codes "format") (number (unsigned 1)) (IsCount 1) (With (codes
    "verdict") (IsText c.args.verdict.now) (With (codes "failure") Any (With (codes "report") (λ report. report
    ≡ null) (With (codes "certificate") (IsText c.args.certificate.now) (With (codes "volumes") (λ v. v ≡ null)
    (IsObject d)))))) c.answer.result.fields c.answer.ensures refl
    (stepped (λ f. members_view f.entries) (codes "verdict") (IsText c.args.verdict.now) (With (codes "failure")
    Any (With (codes "report") (λ report. report ≡ null) (With (codes "certificate") (IsText
    c.args.certificate.now) (With (codes "volumes") (λ v. v ≡ null) (IsObject d)))))
    c.answer.result.fields c.with_made.result.fields c.text_of.result c.with_made.ensures c.text_of.ensures
    (stepped_by (λ x v. view v ≡ null) (λ f. members_view f.entries) (codes "failure") (tt {0}) Any (With (codes
    "report") (λ report. report ≡ null) (With (codes "certificate") (IsText c.args.certificate.now) (With
    (codes "volumes") (λ v. v ≡ null) (IsObject d))))
    c.with_made.result.fields c.with.result.fields c.with.ensures (λ v g. tt)
    (stepped_by (λ x v. view v ≡ null) (λ f. members_view f.entries) (codes "report") (tt {0}) (λ report. report ≡ null)
    (With (codes "certificate") (IsText c.args.certificate.now) (With (codes "volumes") (λ v. v ≡ null)
    (IsObject d)))
    c.with.result.fields c.with-2.result.fields c.with-2.ensures (λ v g. g)
    (stepped (λ f. members_view f.entries) (codes "certificate") (IsText c.args.certificate.now) (With (codes
    "volumes") (λ v. v ≡ null) (IsObject d))
    c.with-2.result.fields c.with_made-2.result.fields c.text_of-2.result c.with_made-2.ensures
    c.text_of-2.ensures
    (stepped_by (λ x v. view v ≡ null) (λ f. members_view f.entries) (codes "volumes") (tt {0}) (λ v. v ≡ null) (IsObject
    d)
    c.with_made-2.result.fields c.with-3.result.fields c.with-3.ensures (λ v g. g)
    is))))))
