use Rattle.std.proofs.Common.{ltb, arith, rules}
use Rattle.std.proofs.lemmas.Bool.{ltb-true, ltb-false}
use Rattle.std.proofs.lemmas.List.Sorted.{IsPartitionPoint-from_clause, IsPartitionedBy-ltb}
use Rattle.causal_order.specs.WrittenOrder.{place_at}
use Rattle.causal_order.proofs.by_line.count_before.Goals as goal

pub returns-clause-before : goal.returns-clause-before
returns-clause-before g c =
    let parted = IsPartitionedBy-ltb (place_at g.T.NamesLine.named c.args.entries.now) _ c.args.place c.requires in
    let point = IsPartitionPoint-from_clause
    (λ k. ltb (place_at g.T.NamesLine.named c.args.entries.now k) c.args.place) _ _
    c.partition_point.ensures.partitioned parted (λ a r q k. search rules) in
    λ i d h. ltb-true _ _ (point.0 i d (omega arith) h)

pub returns-clause-rest : goal.returns-clause-rest
returns-clause-rest g c =
    let parted = IsPartitionedBy-ltb (place_at g.T.NamesLine.named c.args.entries.now) _ c.args.place c.requires in
    let point = IsPartitionPoint-from_clause
    (λ k. ltb (place_at g.T.NamesLine.named c.args.entries.now k) c.args.place) _ _
    c.partition_point.ensures.partitioned parted (λ a r q k. search rules) in
    λ i d from h. ltb-false _ _ (point.1 i d from h)
