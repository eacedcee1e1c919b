use Rattle.plain_search.proofs.Sweeping.{all_sorted}
use Rattle.plain_search.proofs.reach.reaches.Goals as goal

pub returns-clause-all : goal.returns-clause-all
returns-clause-all g c = all_sorted (g.S.Lines.journals c.args.source.now) c.args.query.now _ _
    c.in_ok-sort.ensures.same c.in_ok-reaches.ensures.all
