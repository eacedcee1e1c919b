use Rattle.std.proofs.Common.{rules}
use Rattle.book_rules.proofs.table.Table.tells_reply.Goals as goal

pub returns-in-Reply : goal.returns-in-Reply
returns-in-Reply c = search rules
