use Rattle.std.proofs.Common.{List, length, ◌-◌, get_or, subst}
use Rattle.journal_lines.specs.declared.line.Line.{Line}
use Rattle.auditor.specs.Closing.{ClosesAt}
use Rattle.auditor.proofs.Closings.{last_closes}
use Rattle.auditor.proofs.plain.PlainSourceLineSource.close_reading.Goals as goal

pub returns : goal.returns
returns c = subst (λ (ls : List Line). ClosesAt ls
    (get_or c.lines_of-lines.result.now (length c.lines_of-lines.result.now - 1) c.index-lines-lines.result).reading)
    c.lines_of-lines.ensures.lines (last_closes _ _ c.lines_of-lines.ensures.closed)
