use Rattle.link_auth.proofs.MessageLaws.{ends_are_one}
use Rattle.link_auth.proofs.laws.ends_meet.Goals as goal

pub returns : goal.returns
returns c = ends_are_one
