use Rattle.std.proofs.Common.{sym, ◌∙◌}
use Rattle.book_state.proofs.PlaceLaws.{no_place, is_placed}
use Rattle.book_state.proofs.units.Units.has.Goals as goal

pub returns-in-Some : goal.returns-in-Some
returns-in-Some c = sym (is_placed 0 _ _ c.in-Some.field-0 (sym c.place.ensures.place ∙ c.in-Some.is))

pub returns-in-None : goal.returns-in-None
returns-in-None c = sym (no_place 0 _ _ (sym c.place.ensures.place ∙ c.in-None.is))
