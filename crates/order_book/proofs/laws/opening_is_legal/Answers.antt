use Rattle.order_book.proofs.FirstLines.{opening_is_legal}
use Rattle.order_book.proofs.laws.opening_is_legal.Goals as goal

pub returns : goal.returns
returns c = opening_is_legal
