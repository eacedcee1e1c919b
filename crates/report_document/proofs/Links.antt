-- One line more of a chain.
use Rattle.std.proofs.Common.{◌≡◌, ℕ, ◌+◌, ◌<◌, List, [], ◌∷◌, ◌++◌, map, take, get_or, length, refl, append_assoc}
use Rattle.std.proofs.lemmas.List.{map-append, take_more}
use Rattle.std.proofs.lemmas.List.Elements.{filter-append}
use Rattle.causal_order.specs.declared.reference.Ref.{Ref}
use Rattle.report_document.specs.declared.word.ReportWord.{ReportWord}
use Rattle.report_document.specs.declared.word.ReportWord.TheVariants.{Line}
use Rattle.report_document.specs.Telling.{is_value, values_of}

pub links_more : (a b more : List ReportWord) (chain : List Ref) (i : ℕ) (d : Ref) → i < length chain
    → values_of a ≡ b ++ map Line (take i chain) → values_of more ≡ Line (get_or chain i d) ∷ []
    → values_of (a ++ more) ≡ b ++ map Line (take (i + 1) chain)
links_more a b more chain i d h e f =
    rw (
      filter-append is_value a more,
      e,
      f,
      take_more chain i d h,
      map-append Line (take i chain) (get_or chain i d ∷ []),
      append_assoc b (map Line (take i chain)) (Line (get_or chain i d) ∷ []),
    ) refl
