use Rattle.std.proofs.Common.{arith, sym, subst}
use Rattle.std.proofs.lemmas.Bool.Decides.{nat_tests}
use Rattle.book_state.specs.Places.{AreUnmarked}
use Rattle.book_state.proofs.MarkLaws.{unmarked_by_count, count_by_unmarked}
use Rattle.book_state.proofs.units.Units.is_unmarked.Goals as goal

pub returns : goal.returns
returns c = (
  λ e. subst AreUnmarked c.self.view_is (unmarked_by_count _ c.self.inside.marks c.self.invariant.delegable
      (grind (arith, nat_tests))),
  λ un. (let none = count_by_unmarked _ c.self.inside.marks c.self.invariant.delegable
      (subst AreUnmarked (sym c.self.view_is) un) in grind (arith, nat_tests)),
)
