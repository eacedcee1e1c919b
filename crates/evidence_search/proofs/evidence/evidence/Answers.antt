use Rattle.std.proofs.Common.{rules, subst}
use Rattle.plain_search.specs.Search.{ArePiecesOver}
use Rattle.evidence_search.proofs.Complete.{none_over_gap, too_long}
use Rattle.evidence_search.proofs.evidence.evidence.Goals as goal

pub returns-in_err-pieces-clause-none : goal.returns-in_err-pieces-clause-none
returns-in_err-pieces-clause-none g c is =
    none_over_gap (g.S.Lines.journals c.args.source.now) c.args.query.now (c.in_err-pieces.ensures.none (search rules))

pub returns-in_err-pieces-clause-long : goal.returns-in_err-pieces-clause-long
returns-in_err-pieces-clause-long g c is =
    let js = g.S.Lines.journals c.args.source.now in
    let q = c.args.query.now in
    too_long js q c.in_ok-foreign.foreign c.in_ok-foreign.ensures.found
    (subst (ArePiecesOver js q) c.room_beside-room.ensures (c.in_err-pieces.ensures.long (search rules)))
