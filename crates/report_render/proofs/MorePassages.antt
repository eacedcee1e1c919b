-- One passage more.
use Rattle.std.proofs.Common.{◌≡◌, ℕ, ◌+◌, ◌<◌, List, [], ◌∷◌, ◌++◌, length, take, get_or, refl, ap, Option, Bor}
use Rattle.std.proofs.lemmas.List.{take_more}
use Rattle.zone_times.specs.declared.zone.ZoneFile.{ZoneFile}
use Rattle.report_document.specs.declared.block.Block.{Block}
use Rattle.report_render.specs.declared.text_block.TextBlock.{TextBlock}
use Rattle.report_render.specs.Spelling.{IsPassage, ArePassages}

passages_more : (clock : Option (Bor ZoneFile)) (blocks : List Block) (passages : List TextBlock) (b : Block) (p : TextBlock)
    → ArePassages clock blocks passages → IsPassage clock b p → ArePassages clock (blocks ++ b ∷ []) (passages ++ p ∷ [])
passages_more clock [] passages b p e h = (p, [], ap (λ ps. ps ++ p ∷ []) e, h, refl)
passages_more clock (a ∷ blocks) passages b p (first, rest, e, h, others) k = (
  first,
  rest ++ p ∷ [],
  ap (λ ps. ps ++ p ∷ []) e,
  h,
  passages_more clock blocks rest b p others k,
)

pub passages_step : (clock : Option (Bor ZoneFile)) (blocks : List Block) (i : ℕ) (d : Block) (passages : List TextBlock) (p : TextBlock) → i < length blocks
    → ArePassages clock (take i blocks) passages → IsPassage clock (get_or blocks i d) p
    → ArePassages clock (take (i + 1) blocks) (passages ++ p ∷ [])
passages_step clock blocks i d passages p h k l =
    rw (take_more blocks i d h) (passages_more clock (take i blocks) passages (get_or blocks i d) p k l)
