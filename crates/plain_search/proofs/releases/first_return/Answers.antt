use Rattle.std.proofs.Common.{arith}
use Rattle.plain_search.proofs.Halving.{none_return, late_return, one_return}
use Rattle.plain_search.proofs.releases.first_return.Goals as goal

pub returns-in_default : goal.returns-in_default
returns-in_default c = none_return c.args.query.now c.args.line.now c.args.releases.now c.in_default.ensures

pub returns-then-milliseconds : goal.returns-then-milliseconds
returns-then-milliseconds c =
    late_return c.args.query.now c.args.line.now c.args.releases.now c.in-Some.release c.in-Some.ensures
    (let a = c.if-milliseconds.true in let b = c.milliseconds.ensures.value in
    let d = c.milliseconds-2.ensures.value in let e = c.milliseconds-3.ensures.value in omega arith)

pub returns : goal.returns
returns c =
    one_return c.args.query.now c.args.line.now c.args.releases.now c.in-Some.release c.in-Some.ensures
    (let a = c.if-milliseconds.false in let b = c.milliseconds.ensures.value in
    let d = c.milliseconds-2.ensures.value in let e = c.milliseconds-3.ensures.value in omega arith)
