use Rattle.std.proofs.Common.{arith}
use Rattle.desk_args.proofs.Joins.{no_volume}
use Rattle.desk_args.proofs.join_args.volume_in.Goals as goal

pub returns-then-number-eq0-clause-none : goal.returns-then-number-eq0-clause-none
returns-then-number-eq0-clause-none c none n is =
    let zero = c.if-number-eq0.true in
    no_volume c.args.text.now c.in_ok-number.number (omega arith) c.in_ok-number.ensures.given n is
