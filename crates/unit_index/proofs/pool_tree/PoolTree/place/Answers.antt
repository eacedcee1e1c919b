use Rattle.std.proofs.Common.{◌≡◌, true, sym, ◌∙◌, subst, ◌<◌, ℕ}
use Rattle.book_state.specs.Book.{is_in, units_in}
use Rattle.book_state.specs.Places.{IsUnitAt}
use Rattle.book_state.proofs.Ranges.{within, index_below}
use Rattle.unit_index.proofs.PoolCharts.{stands_at}
use Rattle.unit_index.proofs.pool_tree.PoolTree.place.Goals as goal

pub returns : goal.returns
returns c =
    let pool = c.args.self.now.pool in
    let legal = c.args.self.now.whole.legal in
    let yes : is_in pool c.args.prefix.now ≡ true = sym c.has.ensures ∙ c.if-not-has.false in
    subst (λ (i : ℕ). (i < units_in pool) × IsUnitAt pool i c.args.prefix.now) (sym c.index_of.ensures) (
      index_below pool c.args.prefix.now legal (within pool c.args.prefix.now yes),
      stands_at pool c.args.prefix.now legal c.len-length.ensures.whole yes,
    )
