use Rattle.std.proofs.Common.{◌+◌, length, ap}
use Rattle.disk_tests.proofs.Fronts.{all_in_front, closed_in_front}
use Rattle.disk_tests.proofs.writing.follow.Goals as goal

pub roll-next-requires-clause-lines : goal.roll-next-requires-clause-lines
roll-next-requires-clause-lines g c =
    closed_in_front _ c.args.volume.book c.close.new.book _
    (all_in_front _ _ _ c.requires.volume (ap (λ ls. length ls + 1) c.journal.ensures.lines)) c.in_ok-close.ensures
