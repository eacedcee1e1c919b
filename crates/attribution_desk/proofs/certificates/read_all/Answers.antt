use Rattle.std.proofs.Common.{rules}
use Rattle.attribution_desk.proofs.Batches.{texts_kept}
use Rattle.attribution_desk.proofs.certificates.read_all.Goals as goal

pub returns-clause-texts : goal.returns-clause-texts
returns-clause-texts g c =
    texts_kept c.args.claims.now c.for_each_mut.new.s (search rules) (λ i d lt. let at =
    c.for_each_mut.ensures i d lt in search rules)
