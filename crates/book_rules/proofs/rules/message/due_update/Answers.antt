use Rattle.std.proofs.Common.{rules}
use Rattle.book_rules.proofs.rules.message.due_update.Goals as goal

pub returns : goal.returns
returns c = search rules
