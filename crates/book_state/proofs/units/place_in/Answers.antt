use Rattle.std.proofs.Common.{arith, ◌≡◌, ◌∙◌, ap, sym, subst, true, false, Some, ℕ, ◌+◌}
use Rattle.book_state.specs.Book.{is_in}
use Rattle.book_state.specs.Places.{IsPool}
use Rattle.book_state.proofs.Ranges.{index_below, within}
use Rattle.book_state.proofs.PlaceLaws.{IsWalked, walked_past, walked_to, walked_all, walked_few}
use Rattle.book_state.proofs.units.place_in.Goals as goal

pub overflow_add-result : goal.overflow_add-result
overflow_add-result c =
    let pool : IsPool c.pool-item.result = subst IsPool (sym c.pool-item.is)
    (c.requires.pools c.loop-pool.pool-index c.pool-item.result (omega arith)) in
    let yes : is_in c.pool-item.result c.args.prefix.now ≡ true = sym c.has.ensures ∙ c.if-has.true in
    let few = walked_few _ _ _ _ c.pool-item.result (omega arith) c.pool-item.is c.loop-pool.invariant in
    omega (
      arith,
      few,
      index_below c.pool-item.result c.args.prefix.now pool (within _ _ yes),
      c.index_of.ensures,
      c.requires.few,
    )

pub returns-then-has : goal.returns-then-has
returns-then-has c =
    let yes : is_in c.pool-item.result c.args.prefix.now ≡ true = sym c.has.ensures ∙ c.if-has.true in
    ap (λ (n : ℕ). Some (c.loop-pool.offset + n)) c.index_of.ensures
    ∙ walked_to _ _ _ _ _ (omega arith) c.pool-item.is c.loop-pool.invariant yes

pub loop-pool-preserved : goal.loop-pool-preserved
loop-pool-preserved c =
    let out : is_in c.pool-item.result c.args.prefix.now ≡ false = sym c.has.ensures ∙ c.if-has.false in
    let past = walked_past _ _ _ _ c.pool-item.result (omega arith) c.pool-item.is c.loop-pool.invariant out in
    subst (λ (n : ℕ). IsWalked c.args.pools.now c.args.prefix.now (c.loop-pool.pool-index + 1)
    (c.loop-pool.offset + n)) (sym c.count-offset.ensures) past

pub returns : goal.returns
returns c = walked_all _ _ _ _ (omega arith) c.loop-pool.invariant
