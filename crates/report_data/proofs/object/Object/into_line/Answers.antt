use Rattle.std.proofs.Common.{arith, ◌∙◌, ap, ◌++◌, List, ℕ}
use Rattle.std.specs.Prelude.{string_bytes}
use Rattle.serde_json.specs.Data.{object}
use Rattle.serde_json.specs.View.{view, members_view}
use Rattle.report_data.proofs.LineLaws.{line_of}
use Rattle.report_data.proofs.object.Object.into_line.Goals as goal

pub returns : goal.returns
returns c =
    line_of c.args.self.fields (λ f. object (members_view f.entries)) (view c.in_ok-value.value)
    (string_bytes c.in_ok-text.text) (string_bytes c.push.new.self) c.in_ok-value.ensures
    (c.in_ok-push.ensures.bytes ∙ ap (λ (x : List ℕ). string_bytes c.in_ok-text.text ++ x) (c.in_ok-push.ensures.ascii (omega arith)))
    c.in_ok-text.ensures.reads_back
