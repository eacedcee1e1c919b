use Rattle.std.proofs.Common.{rules}
use Rattle.archive_files.specs.Alike.{AreSameUpTo}
use Rattle.archive_files.proofs.Copied.{unlike}
use Rattle.archive_files.proofs.copies.expect_copy.Goals as goal

pub returns-clause-differ : goal.returns-clause-differ
returns-clause-differ g c first second e =
    let differ : AreSameUpTo c.args.kept.now.outline.octets c.in_ok-first.first.items c.in_ok-second.second.items → ⊥ =
    search rules in
    unlike (g.F.JournalFiles.had c.args.files.now) c.args.kept.now c.args.volume.now c.in_ok-first.first.items
    c.in_ok-second.second.items first second c.requires.kept c.requires.volume c.requires.outlines
    c.in_ok-first.ensures.had c.in_ok-second.ensures.had differ e
