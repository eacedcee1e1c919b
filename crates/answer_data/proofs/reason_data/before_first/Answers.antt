use Rattle.std.proofs.Common.{codes, ℕ, refl, subst}
use Rattle.std.specs.Prelude.{IfOk}
use Rattle.serde_json.specs.Data.{string}
use Rattle.serde_json.specs.View.{view, members_view}
use Rattle.candidate_leases.specs.declared.why.NoHolderReason.TheVariants as reason
use Rattle.report_data.specs.Rulings.{With, IsObject, IsTime}
use Rattle.report_data.proofs.Steps.{stepped, begun_with, finished}
use Rattle.answer_data.specs.Members.{IsString}
use Rattle.answer_data.specs.Reasons.{IsReason}
use Rattle.answer_data.proofs.reason_data.before_first.Goals as goal

pub returns : goal.returns
returns c =
    finished (λ f. members_view f.entries) (IsReason (reason.BeforeFirstVolume c.args.primary c.args.secondary))
    c.with_made-2.result.fields c.into_value.result c.into_value.ensures (λ d is. (begun_with (λ f. members_view
    f.entries) (codes "reason") (string (codes "before_first_volume")) (IsString (codes "before_first_volume"))
    (With (codes "journal_a") (IsTime c.args.primary) (With (codes "journal_b") (IsTime c.args.secondary)
    (IsObject d))) c.reason.result.fields c.reason.ensures refl (stepped (λ f. members_view f.entries) (codes
    "journal_a") (IsTime c.args.primary) (With (codes "journal_b") (IsTime c.args.secondary) (IsObject d))
    c.reason.result.fields c.with_made.result.fields c.time_of.result c.with_made.ensures (subst (λ (n : ℕ).
    IfOk c.time_of.result (λ v. IsTime n (view v))) c.milliseconds.ensures.value c.time_of.ensures) (stepped (λ
    f. members_view f.entries) (codes "journal_b") (IsTime c.args.secondary) (IsObject d)
    c.with_made.result.fields c.with_made-2.result.fields c.time_of-2.result c.with_made-2.ensures (subst (λ (n
    : ℕ). IfOk c.time_of-2.result (λ v. IsTime n (view v))) c.milliseconds-2.ensures.value c.time_of-2.ensures)
    is))))
