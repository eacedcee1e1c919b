use Rattle.std.proofs.Common.{arith, subst, ◌≤◌, ◌↔◌, ℕ}
use Rattle.plain_search.specs.Search.{AreKeptTo}
use Rattle.plain_search.proofs.Candidates.{end_found}
use Rattle.plain_search.proofs.reach.end_of.Goals as goal

pub returns-clause-end : goal.returns-clause-end
returns-clause-end g c =
    let js = g.S.Lines.journals c.args.source.now in
    let q = c.args.query.now in
    let limit = c.lease_limit-limit.ensures.value in
    let by = subst (λ n. (least : ℕ) → (least ≤ c.in_ok-kept.kept)
    ↔ ((least ≤ n) × AreKeptTo js q.skew c.args.candidate.now least)) limit c.in_ok-kept.ensures.kept in
    end_found js q c.args.candidate.now c.in_ok-kept.kept by (let le =
    (c.in_ok-kept.ensures.kept c.in_ok-kept.kept).0 (omega arith) in
    let most = c.lease_limit-limit.ensures.within in let l = le.0 in
    omega arith) c.less_skew.result c.less_skew.ensures
