use Rattle.link_notices.proofs.StreamLaws.{written_is_given, chunks_join}
use Rattle.link_notices.proofs.GivenBack.{cut_is_given}
use Rattle.link_notices.proofs.laws.written_is_given_back.Goals as goal

pub returns-clause-chunks : goal.returns-clause-chunks
returns-clause-chunks c = chunks_join

pub returns-clause-whole : goal.returns-clause-whole
returns-clause-whole c = written_is_given

pub returns-clause-cut : goal.returns-clause-cut
returns-clause-cut c = cut_is_given
