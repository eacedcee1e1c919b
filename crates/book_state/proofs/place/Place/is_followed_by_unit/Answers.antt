use Rattle.std.proofs.Common.{rules}
use Rattle.book_state.proofs.place.Place.is_followed_by_unit.Goals as goal

pub returns-in-AtUnit : goal.returns-in-AtUnit
returns-in-AtUnit c = search rules
