use Rattle.parallel_check.proofs.Dealing.{joins}
use Rattle.parallel_check.proofs.word.take_in.Goals as goal

pub join_seat-requires : goal.join_seat-requires
join_seat-requires c =
    let word = c.requires.word in
    let part = c.requires.part in (
      word.0,
      word.1,
      part.1,
      word.2,
      joins c.args.word.now.key c.args.seat.now.id c.args.seat.now.me.0 c.args.other.id
          c.args.other.me.0 part.0,
    )
