use Rattle.link_auth.proofs.StreamLaws.{read_is_beginning}
use Rattle.link_auth.proofs.laws.nothing_is_forged.Goals as goal

pub returns : goal.returns
returns c = read_is_beginning
