use Rattle.parallel_check.proofs.Dealing.{splits}
use Rattle.parallel_check.proofs.word.another.Goals as goal

pub split_seat-requires : goal.split_seat-requires
split_seat-requires c =
    let part = c.requires.part in (
      c.requires.word.0,
      c.requires.word.1,
      splits c.args.word.now.key c.args.seat.now.id c.args.seat.now.me.0 part.0
          part.1 part.2,
    )
