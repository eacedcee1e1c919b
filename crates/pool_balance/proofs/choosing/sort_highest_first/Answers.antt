use Rattle.std.proofs.Common.{◌≡◌, ltb, ap, ◌∙◌, rules}
use Rattle.std.specs.Ordering.{is_lt, nat_cmp}
use Rattle.std.proofs.lemmas.Bool.{ltb-false}
use Rattle.std.proofs.lemmas.List.Sorted.{IsStrictWeakOrder-flip, IsStrictWeakOrder-by_number, answers_always}
use Rattle.std.proofs.lemmas.List.Sorted.{sorted_far}
use Rattle.prefix_range.specs.Prefix.{Prefix}
use Rattle.pool_balance.proofs.Choices.{is_lt-nat_cmp}
use Rattle.pool_balance.proofs.choosing.sort_highest_first.Goals as goal

pub returns-clause-descending : goal.returns-clause-descending
returns-clause-descending c i j d le lt =
    let order = IsStrictWeakOrder-flip (λ (x : Prefix) (y : Prefix). ltb x.address y.address)
    (IsStrictWeakOrder-by_number (λ (p : Prefix). p.address)) in
    let up =
    c.sort_unstable_by.ensures.sorted (λ x y. ltb y.address x.address) order
    (answers_always _ (λ a r. is_lt r ≡ ltb a.1.0.now.address a.0.now.address) _ (λ f a r f' q.
    let e : r ≡ nat_cmp a.1.0.now.address a.0.now.address = search rules in
    ap is_lt e ∙ is_lt-nat_cmp a.1.0.now.address a.0.now.address)) in
    ltb-false _ _ (sorted_far (λ (x : Prefix) (y : Prefix). ltb y.address x.address) order _ up i j d le lt)
