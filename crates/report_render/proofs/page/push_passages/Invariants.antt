use Rattle.std.proofs.Common.{◌≡◌, ◌++◌, take}
use Rattle.std.specs.List.{flat_map}
use Rattle.report_render.specs.Page.{passage_html}
use Rattle.report_render.proofs.page.push_passages.Given as goal

abbrev pub invariant-loop-passage : goal.invariant-loop-passage
invariant-loop-passage l =
    l.out.items ≡ l.initial.out.items ++ flat_map passage_html (take l.passage-index l.passages)
