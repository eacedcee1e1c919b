use Rattle.std.proofs.Common.{length}
use Rattle.link_notices.proofs.comparing.+begin_alike.Given as goal

abbrev pub decreases-begin_alike : goal.decreases-begin_alike
decreases-begin_alike l = length l.own.now
