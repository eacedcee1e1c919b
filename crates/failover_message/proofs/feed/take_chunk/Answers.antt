use Rattle.std.proofs.Common.{◌≡◌, ◌∙◌, ◌⊎◌, ℕ, List, arith, inr, subst}
use Rattle.std.specs.Prelude.{IfOk, IfErr}
use Rattle.failover_message.specs.declared.error.LinkError.TheVariants.{Memory}
use Rattle.failover_message.specs.Stream.{Splits, Breaks}
use Rattle.failover_message.proofs.ChunkLaws.{joins, first_found, goes_behind, none_found, fault_found}
use Rattle.failover_message.proofs.feed.take_chunk.Goals as goal

pub overflow_sub-taken : goal.overflow_sub-taken
overflow_sub-taken c =
    let j = joins c.args.held.now.items c.args.chunk.now c.as_slice.result.now c.min-taken.result c.len.result
    c.requires (λ i. omega (arith, c.type_inv.chunk i)) c.len.ensures.value c.min-taken.ensures (c.as_slice.ensures
    ∙ c.in_ok-extend_from_slice.ensures.ok) in
    (first_found c.args.held.now.items c.args.chunk.now c.as_slice.result.now c.min-taken.result c.in-Ok-Some.field-0
    c.in-Ok-Some.first c.in-Ok-Some.behind j c.in-Ok-Some.field-0-is c.in-Ok-Some.ensures).0

pub frames_from-requires : goal.frames_from-requires
frames_from-requires c =
    let j = joins c.args.held.now.items c.args.chunk.now c.as_slice.result.now c.min-taken.result c.len.result
    c.requires (λ i. omega (arith, c.type_inv.chunk i)) c.len.ensures.value c.min-taken.ensures (c.as_slice.ensures
    ∙ c.in_ok-extend_from_slice.ensures.ok) in
    (first_found c.args.held.now.items c.args.chunk.now c.as_slice.result.now c.min-taken.result c.in-Ok-Some.field-0
    c.in-Ok-Some.first c.in-Ok-Some.behind j c.in-Ok-Some.field-0-is c.in-Ok-Some.ensures).1.fits

pub returns-in-Ok-Some-clause-split : goal.returns-in-Ok-Some-clause-split
returns-in-Ok-Some-clause-split c =
    let j = joins c.args.held.now.items c.args.chunk.now c.as_slice.result.now c.min-taken.result c.len.result
    c.requires (λ i. omega (arith, c.type_inv.chunk i)) c.len.ensures.value c.min-taken.ensures (c.as_slice.ensures
    ∙ c.in_ok-extend_from_slice.ensures.ok) in
    let b = first_found c.args.held.now.items c.args.chunk.now c.as_slice.result.now c.min-taken.result
    c.in-Ok-Some.field-0 c.in-Ok-Some.first c.in-Ok-Some.behind j c.in-Ok-Some.field-0-is c.in-Ok-Some.ensures in
    subst (λ (w : List ℕ). IfOk c.frames_from.result (λ frames. Splits w frames.items c.frames_from.new.held.items))
    (goes_behind _ _ _ _ b.1) c.frames_from.ensures.split

pub returns-in-Ok-Some-clause-fault : goal.returns-in-Ok-Some-clause-fault
returns-in-Ok-Some-clause-fault c =
    let j = joins c.args.held.now.items c.args.chunk.now c.as_slice.result.now c.min-taken.result c.len.result
    c.requires (λ i. omega (arith, c.type_inv.chunk i)) c.len.ensures.value c.min-taken.ensures (c.as_slice.ensures
    ∙ c.in_ok-extend_from_slice.ensures.ok) in
    let b = first_found c.args.held.now.items c.args.chunk.now c.as_slice.result.now c.min-taken.result
    c.in-Ok-Some.field-0 c.in-Ok-Some.first c.in-Ok-Some.behind j c.in-Ok-Some.field-0-is c.in-Ok-Some.ensures in
    subst (λ (w : List ℕ). IfErr c.frames_from.result (λ e. (e ≡ Memory) ⊎ Breaks w e))
    (goes_behind _ _ _ _ b.1) c.frames_from.ensures.fault

pub returns-in-Ok-None-clause-split : goal.returns-in-Ok-None-clause-split
returns-in-Ok-None-clause-split c =
    let j = joins c.args.held.now.items c.args.chunk.now c.as_slice.result.now c.min-taken.result c.len.result
    c.requires (λ i. omega (arith, c.type_inv.chunk i)) c.len.ensures.value c.min-taken.ensures (c.as_slice.ensures
    ∙ c.in_ok-extend_from_slice.ensures.ok) in
    let n = none_found c.args.held.now.items c.args.chunk.now c.as_slice.result.now c.min-taken.result
    c.in-Ok-None.field-0 j c.in-Ok-None.field-0-is c.in-Ok-None.ensures in
    rw (c.new.ensures.items, ← c.as_slice.ensures) n.0

pub returns-in-Ok-None-clause-octets : goal.returns-in-Ok-None-clause-octets
returns-in-Ok-None-clause-octets c =
    let j = joins c.args.held.now.items c.args.chunk.now c.as_slice.result.now c.min-taken.result c.len.result
    c.requires (λ i. omega (arith, c.type_inv.chunk i)) c.len.ensures.value c.min-taken.ensures (c.as_slice.ensures
    ∙ c.in_ok-extend_from_slice.ensures.ok) in
    let n = none_found c.args.held.now.items c.args.chunk.now c.as_slice.result.now c.min-taken.result
    c.in-Ok-None.field-0 j c.in-Ok-None.field-0-is c.in-Ok-None.ensures in
    rw (← c.as_slice.ensures) n.1

pub returns-in-Err-clause-fault : goal.returns-in-Err-clause-fault
returns-in-Err-clause-fault c =
    let j = joins c.args.held.now.items c.args.chunk.now c.as_slice.result.now c.min-taken.result c.len.result
    c.requires (λ i. omega (arith, c.type_inv.chunk i)) c.len.ensures.value c.min-taken.ensures (c.as_slice.ensures
    ∙ c.in_ok-extend_from_slice.ensures.ok) in
    inr (fault_found c.args.held.now.items c.args.chunk.now c.as_slice.result.now c.min-taken.result c.in-Err.error j
    c.in-Err.ensures)
