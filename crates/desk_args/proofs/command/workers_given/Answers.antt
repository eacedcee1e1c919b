use Rattle.std.proofs.Common.{arith, rules}
use Rattle.desk_args.proofs.Numbers.{same_number}
use Rattle.desk_args.proofs.command.workers_given.Goals as goal

pub returns-clause-none : goal.returns-clause-none
returns-clause-none c none workers is =
    let same = same_number 64 (omega arith) _ c.in_ok-count.count workers c.in_ok-count.ensures.given is.0 in
    let within = is.0 in
    c.new.ensures.none none (omega (arith, same, is.1)) (search rules)
