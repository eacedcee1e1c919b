use Rattle.std.proofs.Common.{arith, Some}
use Rattle.desk_args.proofs.Numbers.{same_number}
use Rattle.desk_args.proofs.asides.within_in.Goals as goal

pub returns-then-seconds-eq0-clause-none : goal.returns-then-seconds-eq0-clause-none
returns-then-seconds-eq0-clause-none c none seconds is =
    let zero = c.if-seconds-eq0.true in
    let same = same_number 86400 (omega arith) (Some c.args.text.now) c.in_ok-seconds.seconds seconds
    c.in_ok-seconds.ensures.given is.0 in
    let some = is.1 in
    absurd (omega arith)
