use Rattle.std.proofs.Common.{rules, arith}
use Rattle.test_support.proofs.DrawnFolder.{more_so_far}
use Rattle.test_support.proofs.folder.draw_contents.Goals as goal

pub loop-contents-preserved : goal.loop-contents-preserved
loop-contents-preserved c = rw ((c.in_ok-push.ensures {u = tt}).items)
    (more_so_far c.args.files.now c.args.count c.loop-contents.contents.items c.index-files-len.result
    c.in_ok-left.left c.len-in-loop-contents.result c.loop-contents.invariant c.requires
    (search rules) c.index-files-len.is (c.in_ok-left.ensures {u = tt})
    (omega (arith, c.loop-contents-test.true, c.len.ensures, c.len-in-loop-contents.ensures)))
