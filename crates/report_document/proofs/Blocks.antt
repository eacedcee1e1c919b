-- Words, and one block more.
use Rattle.std.proofs.Common.{◌≡◌, List, [], ◌∷◌, ◌++◌, map}
use Rattle.std.proofs.lemmas.List.{map-append}
use Rattle.std.proofs.lemmas.List.Elements.{filter-append}
use Rattle.report_document.specs.declared.block.Block.{Block}
use Rattle.report_document.specs.declared.word.ReportWord.{ReportWord}
use Rattle.report_document.specs.Telling.{told_of, is_value, values_of}

pub told_more : (blocks : List Block) (b : Block) → map told_of (blocks ++ b ∷ []) ≡ map told_of blocks ++ told_of b ∷ []
told_more blocks b = map-append told_of blocks (b ∷ [])

pub values_more : (a b : List ReportWord) → values_of (a ++ b) ≡ values_of a ++ values_of b
values_more a b = filter-append is_value a b
