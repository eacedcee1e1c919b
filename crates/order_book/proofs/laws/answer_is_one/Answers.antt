use Rattle.order_book.proofs.OneAnswer.{one_answer, one_refusal, not_both}
use Rattle.order_book.proofs.laws.answer_is_one.Goals as goal

pub returns-clause-answer : goal.returns-clause-answer
returns-clause-answer c = one_answer

pub returns-clause-refusal : goal.returns-clause-refusal
returns-clause-refusal c = one_refusal

pub returns-clause-apart : goal.returns-clause-apart
returns-clause-apart c = not_both
