use Rattle.link_notices.proofs.ClockLaws.{range_holds}
use Rattle.link_notices.proofs.laws.ranges_hold.Goals as goal

pub returns : goal.returns
returns c = range_holds
