use Rattle.book_rules.proofs.NextHead.{next_is_legal}
use Rattle.book_rules.proofs.OneNext.{next_is_one}
use Rattle.book_rules.proofs.head_laws.next_volume_is_legal.Goals as goal

pub returns-clause-legal : goal.returns-clause-legal
returns-clause-legal c = next_is_legal

pub returns-clause-one : goal.returns-clause-one
returns-clause-one c = next_is_one
