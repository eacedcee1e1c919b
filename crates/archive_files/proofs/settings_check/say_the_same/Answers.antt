use Rattle.std.proofs.Common.{[]}
use Rattle.archive_files.proofs.Tied.{none_says}
use Rattle.archive_files.proofs.settings_check.say_the_same.Goals as goal

pub returns-clause-same : goal.returns-clause-same
returns-clause-same g c = (
  [],
  none_says (g.F.JournalFiles.had c.args.files.now) c.args.side c.args.volumes.now c.loop-volume.volume-index
      c.loop-volume-test.false c.loop-volume.invariant,
)
