use Rattle.std.proofs.Common.{◌≡◌, codes, refl}
use Rattle.std.specs.Prelude.{Ok, string_bytes}
use Rattle.serde_json.specs.Data.{number, unsigned}
use Rattle.serde_json.specs.View.{view, members_view}
use Rattle.pair_judgement.specs.Judgements.{judgement_text}
use Rattle.report_data.specs.Fields.{IsText}
use Rattle.report_data.specs.Rulings.{With, IsObject, Any, IsCount, IsShownData, IsRulingData}
use Rattle.report_data.proofs.Steps.{stepped, begun_with, lined, any}
use Rattle.report_data.proofs.data.data_of.Goals as goal

pub returns : goal.returns
returns c =
    lined (λ f. members_view f.entries) string_bytes (IsRulingData (judgement_text c.args.explanation.now.ruling)
    (IsShownData c.args.explanation.now.report) c.args.certificate.now (view c.args.volumes))
    c.with_made-5.result.fields c.into_line.result c.into_line.ensures (λ d is.
    begun_with (λ f. members_view f.entries) (codes "format") (number (unsigned 1)) (IsCount 1) (With (codes
    "verdict") (IsText (judgement_text c.args.explanation.now.ruling)) (With (codes "failure") Any (With (codes
    "report") (IsShownData c.args.explanation.now.report) (With (codes "certificate") (IsText
    c.args.certificate.now) (With (codes "volumes") (λ v. v ≡ view c.args.volumes) (IsObject d))))))
    c.answer.result.fields c.answer.ensures refl
    (stepped (λ f. members_view f.entries) (codes "verdict") (IsText (judgement_text
    c.args.explanation.now.ruling)) (With (codes "failure") Any (With (codes "report") (IsShownData
    c.args.explanation.now.report) (With (codes "certificate") (IsText c.args.certificate.now) (With (codes
    "volumes") (λ v. v ≡ view c.args.volumes) (IsObject d)))))
    c.answer.result.fields c.with_made.result.fields c.verdict_of.result c.with_made.ensures
    c.verdict_of.ensures
    (stepped (λ f. members_view f.entries) (codes "failure") Any (With (codes "report") (IsShownData
    c.args.explanation.now.report) (With (codes "certificate") (IsText c.args.certificate.now) (With (codes
    "volumes") (λ v. v ≡ view c.args.volumes) (IsObject d))))
    c.with_made.result.fields c.with_made-2.result.fields c.failure_of.result c.with_made-2.ensures (any
    c.failure_of.result)
    (stepped (λ f. members_view f.entries) (codes "report") (IsShownData c.args.explanation.now.report) (With
    (codes "certificate") (IsText c.args.certificate.now) (With (codes "volumes") (λ v. v ≡ view
    c.args.volumes) (IsObject d)))
    c.with_made-2.result.fields c.with_made-3.result.fields c.shown_of.result c.with_made-3.ensures
    c.shown_of.ensures
    (stepped (λ f. members_view f.entries) (codes "certificate") (IsText c.args.certificate.now) (With (codes
    "volumes") (λ v. v ≡ view c.args.volumes) (IsObject d))
    c.with_made-3.result.fields c.with_made-4.result.fields c.text_of.result c.with_made-4.ensures
    c.text_of.ensures
    (stepped (λ f. members_view f.entries) (codes "volumes") (λ v. v ≡ view c.args.volumes) (IsObject d)
    c.with_made-4.result.fields c.with_made-5.result.fields (Ok c.args.volumes) c.with_made-5.ensures refl
    is))))))
