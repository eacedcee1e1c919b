use Rattle.link_notices.proofs.ClockLaws.{right_is_never_off}
use Rattle.link_notices.proofs.laws.right_clocks_are_never_off.Goals as goal

pub returns : goal.returns
returns c = right_is_never_off
