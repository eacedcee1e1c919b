-- One arrow more.
use Rattle.std.proofs.Common.{List, [], ◌∷◌, ◌++◌, rules}
use Rattle.std.specs.Prelude.{Contains as Has}
use Rattle.std.specs.List.{AllByRecursion}
use Rattle.report_render.specs.declared.picture.MessageArrow.{MessageArrow}
use Rattle.report_render.specs.declared.picture.LineDot.{LineDot}
use Rattle.report_render.specs.Picture.{Joins, AreMessages}

all_more : {X : Type 0} (P : X → Type 0) (xs : List X) (x : X) → AllByRecursion P xs → P x
    → AllByRecursion P (xs ++ x ∷ [])
all_more P [] x h k = (k, search rules)
all_more P (y ∷ xs) x h k = (h.0, all_more P xs x h.1 k)

pub arrow_more : (dots : List LineDot) (arrows : List MessageArrow) (sent taken : LineDot) → AreMessages dots arrows
    → Has dots sent → Has dots taken → AreMessages dots (arrows ++ record { sent = sent; taken = taken } ∷ [])
arrow_more dots arrows sent taken h s t = record {
  each = all_more (Joins dots) arrows (record { sent = sent; taken = taken }) h.each (s, t);
}

pub no_arrows : (dots : List LineDot) → AreMessages dots []
no_arrows dots = record { each = search rules }
