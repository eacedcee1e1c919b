use Rattle.std.proofs.Common.{rules}
use Rattle.book_rules.proofs.table.Table.keeps_waiting.Goals as goal

pub returns-in-Grant : goal.returns-in-Grant
returns-in-Grant c = search rules
