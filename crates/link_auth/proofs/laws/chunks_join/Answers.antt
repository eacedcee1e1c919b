use Rattle.link_auth.proofs.StreamLaws.{chunks_are_one}
use Rattle.link_auth.proofs.laws.chunks_join.Goals as goal

pub returns : goal.returns
returns c = chunks_are_one
