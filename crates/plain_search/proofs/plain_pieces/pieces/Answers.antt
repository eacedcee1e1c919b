use Rattle.std.proofs.Common.{sym, subst, List}
use Rattle.plain_search.specs.declared.reach.CarriedSpan.{CarriedSpan}
use Rattle.plain_search.specs.Search.{AreAllReaches}
use Rattle.plain_search.proofs.plain_pieces.pieces.Goals as goal

pub pieces_of-requires-clause-all : goal.pieces_of-requires-clause-all
pieces_of-requires-clause-all g c =
    subst (λ (xs : List CarriedSpan). AreAllReaches (g.S.Lines.journals c.args.source.now) c.args.query.now xs)
    (sym c.deref.ensures.value) c.in_ok-reaches.ensures.all
