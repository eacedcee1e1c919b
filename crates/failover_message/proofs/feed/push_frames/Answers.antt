use Rattle.std.proofs.Common.{◌≡◌, ◌∙◌, length, arith, inr, ap}
use Rattle.std.proofs.lemmas.Result.{err_from_is_err_and}
use Rattle.failover_message.specs.Stream.{stream_of}
use Rattle.failover_message.proofs.StreamLaws.{pushed_first, pushed_next, ends, breaks, left_behind, some_next}
use Rattle.failover_message.proofs.StreamLaws.{none_next}
use Rattle.failover_message.proofs.feed.push_frames.Goals as goal

pub loop-frame-init : goal.loop-frame-init
loop-frame-init c = rw c.new-rest.ensures
    (pushed_first c.args.frames.now.items c.args.stream.now c.requires (λ i. omega (arith, c.type_inv.stream i)))

pub loop-frame-smaller : goal.loop-frame-smaller
loop-frame-smaller c =
    (pushed_next c.args.frames.now.items c.args.stream.now c.loop-frame.frames.items c.loop-frame.rest c.in-Some.frame
    c.next_frame.new.octets c.loop-frame.invariant (some_next _ _ _ _ _ c.in-Some.is c.in_ok-frame.ensures)).1

pub loop-frame-preserved : goal.loop-frame-preserved
loop-frame-preserved c = rw c.in_ok-extend_from_slice.ensures.items
    (pushed_next c.args.frames.now.items c.args.stream.now c.loop-frame.frames.items c.loop-frame.rest c.in-Some.frame
    c.next_frame.new.octets c.loop-frame.invariant (some_next _ _ _ _ _ c.in-Some.is c.in_ok-frame.ensures)).0

pub returns-in_err-frame-clause-fault : goal.returns-in_err-frame-clause-fault
returns-in_err-frame-clause-fault c =
    let p = err_from_is_err_and c.from_residual.result c.from_residual.ensures.1 in
    rw (p.1, p.2)
    (inr (breaks (stream_of c.args.frames.now.items c.args.stream.now) c.loop-frame.frames.items c.loop-frame.rest
    c.in_err-frame.field-0.0 c.loop-frame.invariant.going c.in_err-frame.ensures))

pub returns-clause-split : goal.returns-clause-split
returns-clause-split c =
    let none = none_next _ _ _ _ c.in_default.is c.in_ok-frame.ensures in
    let s = ends (stream_of c.args.frames.now.items c.args.stream.now) c.loop-frame.frames.items c.loop-frame.rest
    c.loop-frame.invariant.going none.0 in
    let n : c.len.result ≡ length c.loop-frame.rest = c.len.ensures ∙ ap length none.1 in
    let left = left_behind c.args.stream.now c.loop-frame.invariant.behind.front c.loop-frame.rest
    c.loop-frame.invariant.behind.parts in
    rw (n, left.1) s
