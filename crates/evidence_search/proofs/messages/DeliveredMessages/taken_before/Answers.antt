use Rattle.std.proofs.Common.{arith, rules, nat_le, subst, List, All, ◌<◌}
use Rattle.std.proofs.Common.{Contains as Has, get_or, ◌-◌, ◌∙◌, ap}
use Rattle.std.proofs.lemmas.List.Sorted.{IsPartitionedBy-leb, IsPartitionPoint-from_clause}
use Rattle.evidence_search.specs.declared.messages.DeliveredMessage.{DeliveredMessage}
use Rattle.evidence_search.specs.Chains.{messages_of}
use Rattle.evidence_search.proofs.Passing.{none_before, last_before}
use Rattle.evidence_search.proofs.messages.DeliveredMessages.taken_before.Goals as goal

pub returns-then-behind-eq0 : goal.returns-then-behind-eq0
returns-then-behind-eq0 c =
    let ps = c.sent_by-passages.result.now in
    let n = c.args.at.number in
    let point = IsPartitionPoint-from_clause (λ (p : DeliveredMessage). nat_le p.take n) _ _
    c.partition_point-behind.ensures.partitioned
    (IsPartitionedBy-leb (λ (p : DeliveredMessage). p.take) ps n c.sent_by-passages.ensures.rising.1)
    (λ a r q k. search rules) in
    rw (← c.partner.ensures) (subst (λ (qs : List DeliveredMessage). All (λ (p : DeliveredMessage). n < p.take) qs)
    c.sent_by-passages.ensures.messages (none_before n c.partition_point-behind.result ps point
    c.if-behind-eq0.true))

pub returns : goal.returns
returns c =
    let ps = c.sent_by-passages.result.now in
    let n = c.args.at.number in
    let point = IsPartitionPoint-from_clause (λ (p : DeliveredMessage). nat_le p.take n) _ _
    c.partition_point-behind.ensures.partitioned
    (IsPartitionedBy-leb (λ (p : DeliveredMessage). p.take) ps n c.sent_by-passages.ensures.rising.1)
    (λ a r q k. search rules) in
    let found = last_before n c.partition_point-behind.result ps point (record { send = 0; take = 0 }) (let some =
    c.if-behind-eq0.false in omega arith) c.partition_point-behind.ensures.bound in
    let is = c.sent_by-passages.ensures.messages ∙ ap (messages_of c.args.self.now) c.partner.ensures in (
      subst (λ (qs : List DeliveredMessage). Has qs (get_or ps (c.partition_point-behind.result - 1)
          (record { send = 0; take = 0 }))) is found.0,
      found.1,
    )
