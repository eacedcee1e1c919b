use Rattle.std.proofs.Common.{None}
use Rattle.order_book.proofs.Latest.{place_anew}
use Rattle.order_book.proofs.latest_grants.LatestGrants.end.Goals as goal

pub returns : goal.returns
returns c = place_anew c.args.self.now.places c.remove.new.self c.args.prefix.now c.key_of.result
    None c.key_of.ensures c.remove.ensures.updates.0
