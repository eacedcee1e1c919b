use Rattle.std.proofs.Common.{refl}
use Rattle.archive_desk.specs.declared.stretches.FoundStretch.{FoundStretch}
use Rattle.archive_desk.proofs.Spans.{one_found, all_found}
use Rattle.archive_desk.proofs.stretches.found_over.Goals as goal

pub loop-span-preserved : goal.loop-span-preserved
loop-span-preserved g c rest left =
    let f : FoundStretch = record { reply = c.in_ok-reply.reply; end = c.span-item.result.to } in
    one_found (g.F.JournalFiles.had c.args.files.now) c.args.archive.now c.args.query.now c.args.spans.now
    c.loop-span.span-index c.span-item.result c.stretch_of-stretch.result f c.loop-span.stretches.items
    c.push.new.self.items rest c.loop-span-test.true c.span-item.is c.stretch_of-stretch.ensures c.in_ok-reply.ensures
    refl c.in_ok-push.ensures.items c.loop-span.invariant left

pub returns : goal.returns
returns g c =
    all_found (g.F.JournalFiles.had c.args.files.now) c.args.archive.now c.args.query.now c.args.spans.now
    c.loop-span.span-index c.loop-span.stretches.items c.loop-span-test.false c.loop-span.invariant
