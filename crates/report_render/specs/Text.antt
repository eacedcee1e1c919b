-- The text of a report.
use Rattle.std.specs.Prelude.{ℕ, List, [], ◌∷◌, ◌++◌, codes}
use Rattle.std.specs.List.{flat_map}
use Rattle.report_document.specs.declared.block.BlockKind.{BlockKind}
use Rattle.report_document.specs.declared.block.BlockKind.TheVariants.{Heading, Paragraph, Item, Cited}
use Rattle.report_render.specs.declared.text_block.TextBlock.{TextBlock}
use Rattle.report_render.specs.declared.text_block.RenderedText.{RenderedText}

-- what stands before a passage: an empty line before a heading
abbrev pub front_of : BlockKind → List ℕ
front_of Heading = 10 ∷ []
front_of Paragraph = []
front_of Item = codes "- "
front_of Cited = codes "    "

-- a line
abbrev pub passage_text : TextBlock → List ℕ
passage_text p = front_of p.kind ++ (p.text.items ++ 10 ∷ [])

-- the ruling's line, and the passages
abbrev pub report_text : RenderedText → List ℕ
report_text s = s.line.items ++ flat_map passage_text s.passages.items
