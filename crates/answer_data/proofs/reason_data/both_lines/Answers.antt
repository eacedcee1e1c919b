use Rattle.std.proofs.Common.{◌∙◌, ap, List, [], ◌∷◌, ◌++◌}
use Rattle.serde_json.specs.declared.value.Value.{Value}
use Rattle.answer_data.specs.Members.{IsLine}
use Rattle.answer_data.proofs.Lists.{array_of_two}
use Rattle.answer_data.proofs.reason_data.both_lines.Goals as goal

pub returns : goal.returns
returns c =
    let first = c.in_ok-line_of.field-0 in
    let second = c.in_ok-line_of-2.field-0 in
    array_of_two IsLine c.args.first c.args.other first second c.push-2.new.self
    (c.in_ok-push-2.ensures.items ∙ ap (λ (vs : List Value). vs ++ second ∷ [])
    (c.in_ok-push.ensures.items ∙ ap (λ (vs : List Value). vs ++ first ∷ []) c.new-lines.ensures.items))
    c.in_ok-line_of.ensures c.in_ok-line_of-2.ensures
