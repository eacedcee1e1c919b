use Rattle.std.specs.Prelude.{slice_index}
use Rattle.parallel_check.proofs.Dealing.{learns}
use Rattle.parallel_check.proofs.word.closed.Goals as goal

pub returns : goal.returns
returns c =
    let last = c.close_with.ensures.values.2 in
    let s = last.0 in (
      slice_index s.words 0,
      learns c.args.claims.shared.key s.words s.views c.args.seat.id c.args.seat.me.0 last.1.0
          last.1.1 c.requires.whole,
    )
