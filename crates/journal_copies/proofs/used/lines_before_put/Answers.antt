use Rattle.std.specs.Prelude.{true, false}
use Rattle.journal_copies.proofs.UsedLaws.{short, at_end}
use Rattle.journal_copies.proofs.used.lines_before_put.Goals as goal

pub returns-in_default : goal.returns-in_default
returns-in_default c = short c.args.lines.now c.in_default.ensures

pub returns-then-is_put_behind : goal.returns-then-is_put_behind
returns-then-is_put_behind c =
    at_end c.args.lines.now c.in-Some.place c.index-lines-place.result c.index-lines-place-2.result true
    c.in-Some.ensures.0 c.in-Some.ensures.1 c.index-lines-place.is c.index-lines-place-2.is c.if-is_put_behind.ensures

pub returns : goal.returns
returns c =
    at_end c.args.lines.now c.in-Some.place c.index-lines-place.result c.index-lines-place-2.result false
    c.in-Some.ensures.0 c.in-Some.ensures.1 c.index-lines-place.is c.index-lines-place-2.is c.if-is_put_behind.ensures
