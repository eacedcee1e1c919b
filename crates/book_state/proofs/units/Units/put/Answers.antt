use Rattle.std.proofs.Common.{arith, ap, sym, ◌∙◌, ◌≡◌, Some, true}
use Rattle.std.specs.Prelude.{if◌then◌else◌}
use Rattle.std.specs.Option.{is_some}
use Rattle.book_state.specs.Places.{Delegable, place_on, unit_at}
use Rattle.book_state.specs.Effects.{same_prefix}
use Rattle.book_state.proofs.PlaceLaws.{has_place}
use Rattle.book_state.proofs.TableLaws.{put_unit, marks_few, mark_one}
use Rattle.book_state.proofs.units.Units.put.Goals as goal

pub overflow_add-self : goal.overflow_add-self
overflow_add-self c = let one = mark_one c.args.unit in
    omega (arith, marks_few _ _ _ c.self.invariant.delegable, one, c.mark.ensures)

pub returns-in-Some-clause-units : goal.returns-in-Some-clause-units
returns-in-Some-clause-units c q =
    let at : place_on 0 c.self.inside.pools.items c.args.prefix.now ≡ Some c.in-Some.place
    = ap (λ (t : Delegable). place_on 0 t.pools c.args.prefix.now) c.self.view_is
    ∙ (sym c.place.ensures.place ∙ c.in-Some.is) in
    let put = put_unit c.self.inside.pools.items c.self.inside.units.items c.self.inside.marks c.args.prefix.now
    c.in-Some.place c.args.unit c.self.invariant.delegable c.place.ensures.whole at q in
    put ∙ ap (λ (t : Delegable). if same_prefix q c.args.prefix.now then c.args.unit else unit_at t q) c.self.view_is

pub returns-in_default-clause-units : goal.returns-in_default-clause-units
returns-in_default-clause-units c q =
    let some : is_some (place_on 0 c.args.self.now.pools c.args.prefix.now) ≡ true = has_place 0 _ _ c.requires in
    let none = ap is_some (sym c.place.ensures.place ∙ c.in_default.is) in
    absurd (cc)
