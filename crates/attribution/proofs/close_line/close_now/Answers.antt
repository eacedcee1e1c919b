use Rattle.std.specs.Prelude.{true, false}
use Rattle.std.proofs.Common.{rules, sym, ◌∙◌}
use Rattle.attribution.proofs.Closing.{closed_when}
use Rattle.attribution.proofs.close_line.close_now.Goals as goal

pub returns-then-is_close : goal.returns-then-is_close
returns-then-is_close c = sym (closed_when c.args.lines.now.items c.in-Some.last.now true (search rules) (search rules))

pub returns : goal.returns
returns c = search rules
    ∙ sym (closed_when c.args.lines.now.items c.in-Some.last.now false (search rules) (search rules))
