use Rattle.std.proofs.Common.{rules, sym, subst, arith, min, length}
use Rattle.test_support.specs.Mirror.{file_of}
use Rattle.test_support.proofs.Drawn.{IsFront, sure_front, more_front, is_left}
use Rattle.test_support.proofs.drawing.draw_left.Goals as goal

pub loop-draws-init : goal.loop-draws-init
loop-draws-init c =
    let s = c.args.state.now in
    subst (IsFront (file_of s)) (sym (c.in_ok-content.ensures {u = tt}))
    (sure_front (file_of s) (min s.synced (length s.written.items)) (omega arith))

pub loop-draws-preserved : goal.loop-draws-preserved
loop-draws-preserved c =
    let f = file_of c.args.state.now in
    let items = c.loop-draws.content.items in
    let place = c.len-in-loop-draws.ensures in
    let e = c.octet_of.ensures in
    subst (IsFront f) (sym (c.in_ok-push.ensures {u = tt}).items)
    (more_front f items c.octet_of.result c.loop-draws.invariant (search rules) (search rules))

pub returns : goal.returns
returns c = is_left (file_of c.args.state.now) c.loop-draws.content.items c.loop-draws.invariant
    (omega (arith, c.draw_length-length.ensures, c.len.ensures, c.loop-draws-test.false))
