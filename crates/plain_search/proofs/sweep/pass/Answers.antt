use Rattle.std.proofs.Common.{arith, refl}
use Rattle.std.proofs.lemmas.Option.{slice_get_read}
use Rattle.plain_search.proofs.Sweeping.{all_later, none_later, passed_on}
use Rattle.plain_search.proofs.sweep.pass.Goals as goal

pub returns-then-milliseconds-clause-later : goal.returns-then-milliseconds-clause-later
returns-then-milliseconds-clause-later c =
    let at = slice_get_read c.args.reaches.now _ c.loop-count.count c.index-reaches-count.result refl
    c.loop-count-test.true c.index-reaches-count.is in
    let begin = c.milliseconds.ensures.value in
    let moment = c.milliseconds-in-loop-count.ensures.value in
    let later = c.if-milliseconds.true in
    all_later c.args.reaches.now c.args.moment c.loop-count.count c.index-reaches-count.result c.requires.sorted at
    (omega arith)

pub loop-count-preserved : goal.loop-count-preserved
loop-count-preserved c =
    let at = slice_get_read c.args.reaches.now _ c.loop-count.count c.index-reaches-count.result refl
    c.loop-count-test.true c.index-reaches-count.is in
    let begin = c.milliseconds.ensures.value in
    let moment = c.milliseconds-in-loop-count.ensures.value in
    let begun = c.if-milliseconds.false in
    passed_on c.args.reaches.now c.args.moment c.loop-count.count c.loop-count.best c.index-reaches-count.result at
    (omega arith) c.loop-count-test.true c.loop-count.invariant c.farther-best.result c.farther-best.ensures

pub returns-clause-later : goal.returns-clause-later
returns-clause-later c = none_later c.args.reaches.now c.args.moment c.loop-count.count (let past =
    c.loop-count-test.false in omega arith)
