use Rattle.book_rules.proofs.OneVerdict.{legal_unbroken, one_first_broken}
use Rattle.book_rules.proofs.laws.first_broken_is_one.Goals as goal

pub returns-clause-legal : goal.returns-clause-legal
returns-clause-legal c = legal_unbroken

pub returns-clause-one : goal.returns-clause-one
returns-clause-one c = one_first_broken
