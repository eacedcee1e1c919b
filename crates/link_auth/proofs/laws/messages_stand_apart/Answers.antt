use Rattle.link_auth.proofs.MessageLaws.{messages_apart}
use Rattle.link_auth.proofs.laws.messages_stand_apart.Goals as goal

pub returns : goal.returns
returns c = messages_apart
