use Rattle.std.proofs.Common.{ap, sym, ◌∙◌, ◌≡◌, ◌<◌, length, Some, subst}
use Rattle.book_state.specs.Places.{Delegable, place_on, unit_at}
use Rattle.book_state.proofs.TableLaws.{unit_placed, unit_nowhere}
use Rattle.book_state.proofs.units.Units.unit.Goals as goal

pub returns-in-Some : goal.returns-in-Some
returns-in-Some c =
    let at : place_on 0 c.self.inside.pools.items c.args.prefix.now ≡ Some c.in-Some.place
    = ap (λ (t : Delegable). place_on 0 t.pools c.args.prefix.now) c.self.view_is
    ∙ (sym c.place.ensures.place ∙ c.in-Some.is) in
    let lt : c.in-Some.place < length c.self.inside.units.items =
    subst (λ (t : Delegable). c.in-Some.place < length t.units) (sym c.self.view_is) c.in-Some.ensures.within in
    let read = unit_placed c.self.inside.pools.items c.self.inside.units.items c.args.prefix.now c.in-Some.place
    c.index.result.now c.place.ensures.whole at lt c.index.ensures in
    read ∙ ap (λ (t : Delegable). unit_at t c.args.prefix.now) c.self.view_is

pub returns-in-None : goal.returns-in-None
returns-in-None c = c.self.invariant.is_fresh ∙ unit_nowhere _ _ (sym c.place.ensures.place ∙ c.in-None.is)
