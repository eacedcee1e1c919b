use Rattle.std.proofs.Common.{◌≡◌, ◌≤◌, take}
use Rattle.std.specs.List.{sum_by}
use Rattle.book_state.specs.Book.{units_in}
use Rattle.server_settings.proofs.settings.have_few_units.Given as goal

abbrev pub invariant-loop-pool : goal.invariant-loop-pool
invariant-loop-pool l = record { sum : l.units ≡ sum_by units_in (take l.pool-index l.pools); few : l.units ≤ 65536 }
