use Rattle.std.proofs.Common.{ltb, arith, rules}
use Rattle.std.proofs.lemmas.Bool.{ltb-true, ltb-false}
use Rattle.std.proofs.lemmas.List.Sorted.{IsPartitionPoint-from_clause, IsPartitionedBy-ltb}
use Rattle.std.proofs.Common.{sym}
use Rattle.report_render.proofs.Places.{below_is}
use Rattle.report_render.proofs.axis.below.Goals as goal

pub returns-clause-value : goal.returns-clause-value
returns-clause-value c =
    let parted = IsPartitionedBy-ltb (λ x. x) _ c.args.moment c.requires in
    let point = IsPartitionPoint-from_clause (λ k. ltb k c.args.moment) _ _ c.partition_point.ensures.partitioned parted
    (λ a r q k. search rules) in
    sym (below_is c.args.axis.now c.args.moment c.partition_point.result (search rules)
    (λ k d h. ltb-true _ _ (point.0 k d (omega arith) h)) (λ k d from to. ltb-false _ _ (point.1 k d from to)))
