use Rattle.std.proofs.Common.{refl}
use Rattle.client_service.proofs.Books.{last_stands}
use Rattle.client_service.proofs.alone.ExclusiveServiceBookService.first_to_seize.Goals as goal

pub returns-clause-found : goal.returns-clause-found
returns-clause-found c =
    (c.args.book.now, c.journal-legal.ensures.legal, refl, (last_stands c.args.book.now, c.first_to_seize.ensures))
