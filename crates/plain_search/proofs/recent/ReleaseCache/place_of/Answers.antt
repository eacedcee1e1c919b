use Rattle.std.proofs.Common.{arith}
use Rattle.plain_search.proofs.Collecting.{place_at}
use Rattle.plain_search.proofs.recent.ReleaseCache.place_of.Goals as goal

pub returns-then-are_given_back_alike : goal.returns-then-are_given_back_alike
returns-then-are_given_back_alike c =
    place_at c.args.self.now c.args.delegation.now c.loop-place.place c.index.result.now (let lt =
    c.loop-place-test.true in let e = c.len-place-end.ensures in let ok = c.args.self.now.collected.ok.0 in
    omega arith) c.index.ensures
    (c.are_given_back_alike.ensures c.if-are_given_back_alike.true)
