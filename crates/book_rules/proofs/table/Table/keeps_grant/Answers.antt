use Rattle.std.proofs.Common.{rules}
use Rattle.book_rules.proofs.table.Table.keeps_grant.Goals as goal

pub returns-else-grantable : goal.returns-else-grantable
returns-else-grantable c = search rules
