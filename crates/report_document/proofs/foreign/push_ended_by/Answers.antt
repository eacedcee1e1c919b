use Rattle.std.proofs.Common.{ap₂, subst, ◌++◌, ◌∷◌, [], List, OnOk}
use Rattle.report_document.specs.declared.word.ReportWord.{ReportWord}
use Rattle.report_document.specs.Telling.{item, AddsBlocks}
use Rattle.report_document.proofs.foreign.push_ended_by.Goals as goal

pub returns : goal.returns
returns c =
    subst (λ (values : List ReportWord). OnOk c.push_sum.result
    (AddsBlocks (item values ∷ []) c.args.out.now.items c.push_sum.new.out.items))
    (ap₂ (λ (a b : List ReportWord). a ++ b) c.by_mark-parts.ensures c.with_lifetime-sum.ensures)
    c.push_sum.ensures
