use Rattle.std.proofs.Common.{◌≡◌, subst}
use Rattle.journal_lines.specs.declared.line.Journal.{Journal as Lines}
use Rattle.journal_text.specs.Closed.{IsClosed}
use Rattle.auditor.proofs.texts.parsed_journal.Goals as goal

pub returns-in-Ok-clause-closed : goal.returns-in-Ok-clause-closed
returns-in-Ok-clause-closed c j is =
    let same : c.in-Ok.journal ≡ j = cc in
    subst (λ (k : Lines). IsClosed k.lines) same (c.written_is_closed.ensures _ c.in-Ok.ensures.found.0)
