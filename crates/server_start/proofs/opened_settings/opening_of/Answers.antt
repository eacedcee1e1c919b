use Rattle.std.proofs.Common.{sym, ◌∙◌}
use Rattle.server_start.proofs.SaidLines.{says_no_more, all_said, stops_at}
use Rattle.server_start.proofs.opened_settings.opening_of.Goals as goal

pub returns-then-not-is_setting : goal.returns-then-not-is_setting
returns-then-not-is_setting c =
    stops_at c.args.book.now _ c.loop-line.line-index c.role.result _ _ c.journal-line-items.ensures.lines
    c.journal-line-items.ensures.legal c.role.ensures c.unsaid-opening.ensures c.loop-line.invariant
    (says_no_more c.loop-line.opening _ c.loop-line.line-index c.line-item.result c.loop-line-test.true c.line-item.is
    (sym c.is_setting.ensures ∙ c.if-not-is_setting.true))

pub returns : goal.returns
returns c =
    stops_at c.args.book.now _ c.loop-line.line-index c.role.result _ _ c.journal-line-items.ensures.lines
    c.journal-line-items.ensures.legal c.role.ensures c.unsaid-opening.ensures c.loop-line.invariant
    (all_said c.loop-line.opening _ c.loop-line.line-index c.loop-line-test.false)
