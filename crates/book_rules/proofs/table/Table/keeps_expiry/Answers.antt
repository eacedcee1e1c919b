use Rattle.std.proofs.Common.{rules}
use Rattle.book_rules.proofs.table.Table.keeps_expiry.Goals as goal

pub returns-then-is_past : goal.returns-then-is_past
returns-then-is_past c = search rules
