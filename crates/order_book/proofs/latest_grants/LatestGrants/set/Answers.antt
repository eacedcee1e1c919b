use Rattle.std.proofs.Common.{Some}
use Rattle.order_book.proofs.Latest.{place_anew}
use Rattle.order_book.proofs.latest_grants.LatestGrants.set.Goals as goal

pub returns : goal.returns
returns c = place_anew c.args.self.now.places c.insert.new.self c.args.prefix.now c.key_of.result
    (Some (Some c.args.place)) c.key_of.ensures c.in-Ok.ensures.updates.0
