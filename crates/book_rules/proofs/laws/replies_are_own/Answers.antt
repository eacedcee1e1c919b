use Rattle.book_rules.proofs.OwnReplies as own
use Rattle.book_rules.proofs.laws.replies_are_own.Goals as goal

pub returns : goal.returns
returns c = own.replies_are_own
