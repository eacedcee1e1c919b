use Rattle.std.proofs.Common.{rules}
use Rattle.book_rules.proofs.table.Table.keeps_restart.Goals as goal

pub returns-in-Restart : goal.returns-in-Restart
returns-in-Restart c = search rules
