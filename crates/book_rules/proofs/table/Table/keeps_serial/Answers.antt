use Rattle.std.proofs.Common.{rules}
use Rattle.book_rules.proofs.table.Table.keeps_serial.Goals as goal

pub returns-then-number : goal.returns-then-number
returns-then-number c = search rules
