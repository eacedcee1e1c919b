use Rattle.std.proofs.Common.{rules, Option, ℕ, subst, codes}
use Rattle.clap.specs.Words.{first_of, rows_of, found_of}
use Rattle.desk_args.specs.Joins.{AreInOrder}
use Rattle.desk_args.proofs.Joins.{one_volume}
use Rattle.desk_args.proofs.join_args.join_query_given.Goals as goal

pub returns-then-not-are_in_order-clause-none : goal.returns-then-not-are_in_order-clause-none
returns-then-not-are_in_order-clause-none c none query is =
    let rows = rows_of (found_of c.args.options.now) in
    let from = one_volume (first_of (codes "from") rows) query.from c.in_ok-from.from is.from c.in_ok-from.ensures.given in
    let to = one_volume (first_of (codes "to") rows) query.to c.in_ok-to.to is.to c.in_ok-to.ensures.given in
    let order : AreInOrder c.in_ok-from.from c.in_ok-to.to =
    subst (λ (o : Option ℕ). AreInOrder o c.in_ok-to.to) from
    (subst (λ (o : Option ℕ). AreInOrder query.from o) to is.order) in
    let t = c.are_in_order.ensures.1 order in
    let not = c.if-not-are_in_order.true in
    search rules
