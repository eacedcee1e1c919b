use Rattle.std.proofs.Common.{rules}
use Rattle.order_book.proofs.Latest.{place_same, missing}
use Rattle.order_book.proofs.latest_grants.LatestGrants.reserve_unit.Goals as goal

pub returns-in_ok-insert-clause-same : goal.returns-in_ok-insert-clause-same
returns-in_ok-insert-clause-same c = place_same c.args.self.now.places c.insert.new.self c.args.prefix.now
    c.key_of-key.result c.key_of-key.ensures (missing _ _ c.contains_key.ensures (search rules))
    c.in_ok-insert.ensures.updates.0
