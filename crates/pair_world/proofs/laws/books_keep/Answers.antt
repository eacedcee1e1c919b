use Rattle.pair_world.proofs.DownLaws.{books_keep}
use Rattle.pair_world.proofs.laws.books_keep.Goals as goal

pub returns : goal.returns
returns c = books_keep
