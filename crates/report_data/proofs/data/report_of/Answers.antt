use Rattle.std.proofs.Common.{◌≡◌, codes, ℕ, subst}
use Rattle.serde_json.specs.Data.{number, unsigned}
use Rattle.serde_json.specs.View.{view, members_view}
use Rattle.report_data.specs.Rulings.{With, IsObject, Any, IsCount, IsQuestion, IsReportData}
use Rattle.report_data.proofs.Steps.{stepped, stepped_by, begun, finished, any}
use Rattle.report_data.proofs.data.report_of.Goals as goal

pub returns : goal.returns
returns c =
    let r = c.args.report.now in
    finished (λ f. members_view f.entries) (IsReportData r) c.with_made-6.result.fields c.into_value.result
    c.into_value.ensures (λ d is.
    begun (λ f. members_view f.entries) (With (codes "question") (IsQuestion r.certificate.now) (With (codes
    "skew_ms") (IsCount r.skew) (With (codes "transit_ms") (IsCount r.transit) (With (codes "journal_a") Any
    (With (codes "journal_b") Any (With (codes "pieces") Any (With (codes "foreign") Any (With (codes "lines")
    Any (IsObject d))))))))) c.new.result.fields c.new.ensures
    (stepped (λ f. members_view f.entries) (codes "question") (IsQuestion r.certificate.now) (With (codes
    "skew_ms") (IsCount r.skew) (With (codes "transit_ms") (IsCount r.transit) (With (codes "journal_a") Any
    (With (codes "journal_b") Any (With (codes "pieces") Any (With (codes "foreign") Any (With (codes "lines")
    Any (IsObject d))))))))
    c.new.result.fields c.with_made.result.fields c.question_of.result c.with_made.ensures c.question_of.ensures
    (stepped_by (λ n v. view v ≡ number (unsigned n)) (λ f. members_view f.entries) (codes "skew_ms")
    c.milliseconds.result (IsCount r.skew) (With (codes "transit_ms") (IsCount r.transit) (With (codes
    "journal_a") Any (With (codes "journal_b") Any (With (codes "pieces") Any (With (codes "foreign") Any (With
    (codes "lines") Any (IsObject d)))))))
    c.with_made.result.fields c.with.result.fields c.with.ensures (λ v g. subst (λ (n : ℕ). IsCount n (view v))
    c.milliseconds.ensures.value g)
    (stepped_by (λ n v. view v ≡ number (unsigned n)) (λ f. members_view f.entries) (codes "transit_ms")
    c.milliseconds-2.result (IsCount r.transit) (With (codes "journal_a") Any (With (codes "journal_b") Any
    (With (codes "pieces") Any (With (codes "foreign") Any (With (codes "lines") Any (IsObject d))))))
    c.with.result.fields c.with-2.result.fields c.with-2.ensures (λ v g. subst (λ (n : ℕ). IsCount n (view v))
    c.milliseconds-2.ensures.value g)
    (stepped (λ f. members_view f.entries) (codes "journal_a") Any (With (codes "journal_b") Any (With (codes
    "pieces") Any (With (codes "foreign") Any (With (codes "lines") Any (IsObject d)))))
    c.with-2.result.fields c.with_made-2.result.fields c.side_of.result c.with_made-2.ensures (any
    c.side_of.result)
    (stepped (λ f. members_view f.entries) (codes "journal_b") Any (With (codes "pieces") Any (With (codes
    "foreign") Any (With (codes "lines") Any (IsObject d))))
    c.with_made-2.result.fields c.with_made-3.result.fields c.side_of-2.result c.with_made-3.ensures (any
    c.side_of-2.result)
    (stepped (λ f. members_view f.entries) (codes "pieces") Any (With (codes "foreign") Any (With (codes "lines")
    Any (IsObject d)))
    c.with_made-3.result.fields c.with_made-4.result.fields c.pieces_of.result c.with_made-4.ensures (any
    c.pieces_of.result)
    (stepped (λ f. members_view f.entries) (codes "foreign") Any (With (codes "lines") Any (IsObject d))
    c.with_made-4.result.fields c.with_made-5.result.fields c.foreign_of.result c.with_made-5.ensures (any
    c.foreign_of.result)
    (stepped (λ f. members_view f.entries) (codes "lines") Any (IsObject d)
    c.with_made-5.result.fields c.with_made-6.result.fields c.lines_of.result c.with_made-6.ensures (any
    c.lines_of.result)
    is)))))))))
