use Rattle.parallel_check.proofs.Dealing.{draws}
use Rattle.parallel_check.proofs.word.draw.Goals as goal

pub fetch_add-requires : goal.fetch_add-requires
fetch_add-requires c =
    let word = c.requires.word in
    let part = c.requires.part in (
      word.0,
      word.1,
      draws c.args.word.now.key c.args.word.now.table_id.slots c.args.seat.now.id c.args.seat.now.me.0
          c.args.seat.now.me.1 part.0 part.1 word.2,
    )
