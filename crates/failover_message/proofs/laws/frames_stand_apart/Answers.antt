use Rattle.failover_message.proofs.JoinLaws.{stand_apart}
use Rattle.failover_message.proofs.laws.frames_stand_apart.Goals as goal

pub returns : goal.returns
returns c = stand_apart
