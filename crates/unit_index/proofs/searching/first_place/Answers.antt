use Rattle.std.proofs.Common.{arith, ◌<◌, ◌*◌, ap, sym, subst, ℕ}
use Rattle.book_state.proofs.Ranges.{size_positive}
use Rattle.unit_index.proofs.PoolCharts.{no_later}
use Rattle.unit_index.proofs.searching.first_place.Goals as goal

pub returns : goal.returns
returns c i p stands le =
    let size = c.addresses-size.result in
    let some : 0 < size = subst (λ (n : ℕ). 0 < n) (sym c.addresses-size.ensures)
    (size_positive c.args.pool.now.unit_length) in
    let row = ap (λ (n : ℕ). i * n) c.addresses-size.ensures in
    let low = no_later c.first-first.result c.args.from i size some
    (omega (arith, le, stands.address, c.first-first.ensures.value, row)) in
    omega (arith, low, c.min.ensures)
