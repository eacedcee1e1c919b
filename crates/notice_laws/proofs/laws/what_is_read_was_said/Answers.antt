use Rattle.notice_laws.proofs.SoFar.{read_so_far}
use Rattle.notice_laws.proofs.laws.what_is_read_was_said.Goals as goal

pub returns : goal.returns
returns c = read_so_far c.frames_stand_apart.ensures c.chunks_join.ensures.frames
