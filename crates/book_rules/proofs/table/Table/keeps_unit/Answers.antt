use Rattle.std.proofs.Common.{rules}
use Rattle.book_rules.proofs.table.Table.keeps_unit.Goals as goal

pub returns-in-Expire : goal.returns-in-Expire
returns-in-Expire c = search rules
