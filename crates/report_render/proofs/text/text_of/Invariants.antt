use Rattle.std.proofs.Common.{◌≡◌, ◌++◌, take}
use Rattle.std.specs.List.{flat_map}
use Rattle.report_render.specs.Text.{passage_text}
use Rattle.report_render.proofs.text.text_of.Given as goal

abbrev pub invariant-loop-passage : goal.invariant-loop-passage
invariant-loop-passage l =
    l.out.items ≡ l.spelling.line.items ++ flat_map passage_text (take l.passage-index l.spelling.passages.items)
