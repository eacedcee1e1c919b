use Rattle.std.proofs.Common.{ℕ, ◌+◌, MatchOption, subst}
use Rattle.candidate_leases.specs.Conditions.{IsMet, IsUnmet}
use Rattle.candidate_leases.proofs.why.longer_units.Goals as goal

pub returns : goal.returns
returns g c = subst (λ (n : ℕ). MatchOption c.met_pool.result
    (IsUnmet (g.S.Lines.journals c.args.source.now) c.args.query.now.prefix (n + 1))
    (IsMet (g.S.Lines.journals c.args.source.now) c.args.query.now.prefix (n + 1)))
    c.len.ensures.value c.met_pool.ensures
