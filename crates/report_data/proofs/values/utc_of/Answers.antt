use Rattle.std.proofs.Common.{ℕ, List, IfOk, subst}
use Rattle.serde_json.specs.View.{view}
use Rattle.report_data.specs.Fields.{IsText}
use Rattle.report_data.proofs.Moments.{utc_so}
use Rattle.report_data.proofs.values.utc_of.Goals as goal

pub returns : goal.returns
returns c =
    utc_so view c.args.milliseconds c.in_ok-text.text.items c.text_of.result c.in_ok-text.ensures
    (subst (λ (text : List ℕ). IfOk c.text_of.result (λ v. IsText text (view v))) c.deref.ensures.value c.text_of.ensures)
