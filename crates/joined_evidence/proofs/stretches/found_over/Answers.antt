use Rattle.joined_evidence.proofs.Listed.{one_found, all_found}
use Rattle.joined_evidence.proofs.stretches.found_over.Goals as goal

pub loop-span-preserved : goal.loop-span-preserved
loop-span-preserved g c rest left =
    one_found (g.F.JournalFiles.had c.args.files.now) c.args.archive.now c.args.query.now c.args.spans.now
    c.loop-span.span-index c.span-item.result c.stretch_of-asked.result c.in_ok-stretch.stretch
    c.loop-span.stretches.items c.push.new.self.items rest c.loop-span-test.true c.span-item.is
    c.stretch_of-asked.ensures c.in_ok-stretch.ensures c.in_ok-push.ensures.items c.loop-span.invariant left

pub returns : goal.returns
returns g c =
    all_found (g.F.JournalFiles.had c.args.files.now) c.args.archive.now c.args.query.now c.args.spans.now
    c.loop-span.span-index c.loop-span.stretches.items c.loop-span-test.false c.loop-span.invariant
