use Rattle.std.proofs.Common.{rules}
use Rattle.book_rules.proofs.table.Table.keeps_reclaim.Goals as goal

pub returns-then-eq : goal.returns-then-eq
returns-then-eq c = search rules
