use Rattle.std.proofs.Common.{arith, codes}
use Rattle.clap.specs.Words.{first_of, rows_of, found_of}
use Rattle.desk_args.proofs.Numbers.{same_number}
use Rattle.desk_args.proofs.copy_args.line_count_given.Goals as goal

pub returns-then-lines-eq0-clause-none : goal.returns-then-lines-eq0-clause-none
returns-then-lines-eq0-clause-none c none lines is =
    let zero = c.if-lines-eq0.true in
    let same = same_number 281474976710656 (omega arith)
    (first_of (codes "lines") (rows_of (found_of c.args.options.now))) c.in_ok-lines.lines lines
    c.in_ok-lines.ensures.given is.0 in
    let some = is.1 in
    absurd (omega arith)
