use Rattle.std.proofs.Common.{arith, rules, nat_lt, subst, List, All, ◌<◌}
use Rattle.std.proofs.Common.{Contains as Has, get_or}
use Rattle.std.proofs.lemmas.List.Sorted.{IsPartitionedBy-ltb, IsPartitionPoint-from_clause}
use Rattle.evidence_search.specs.declared.messages.DeliveredMessage.{DeliveredMessage}
use Rattle.evidence_search.proofs.Passing.{none_behind, first_behind}
use Rattle.evidence_search.proofs.messages.DeliveredMessages.sent_behind.Goals as goal

pub returns-then-place-passages : goal.returns-then-place-passages
returns-then-place-passages c =
    let ps = c.sent_by-passages.result.now in
    let n = c.args.at.number in
    let point = IsPartitionPoint-from_clause (λ (p : DeliveredMessage). nat_lt p.send n) _ _
    c.partition_point-place.ensures.partitioned
    (IsPartitionedBy-ltb (λ (p : DeliveredMessage). p.send) ps n c.sent_by-passages.ensures.rising.0)
    (λ a r q k. search rules) in
    subst (λ (qs : List DeliveredMessage). All (λ (p : DeliveredMessage). p.send < n) qs) c.sent_by-passages.ensures.messages
    (none_behind n c.partition_point-place.result ps point (omega arith))

pub returns : goal.returns
returns c =
    let ps = c.sent_by-passages.result.now in
    let n = c.args.at.number in
    let point = IsPartitionPoint-from_clause (λ (p : DeliveredMessage). nat_lt p.send n) _ _
    c.partition_point-place.ensures.partitioned
    (IsPartitionedBy-ltb (λ (p : DeliveredMessage). p.send) ps n c.sent_by-passages.ensures.rising.0)
    (λ a r q k. search rules) in
    let found = first_behind n c.partition_point-place.result ps point (record { send = 0; take = 0 }) (let bound =
    c.partition_point-place.ensures.bound in omega arith) in (
      subst (λ (qs : List DeliveredMessage). Has qs (get_or ps c.partition_point-place.result (record { send = 0; take = 0 })))
          c.sent_by-passages.ensures.messages found.0,
      found.1,
    )
