use Rattle.notice_laws.proofs.Whole.{all_read}
use Rattle.notice_laws.proofs.laws.all_is_read.Goals as goal

pub returns : goal.returns
returns c = all_read c.frames_stand_apart.ensures c.chunks_join.ensures.frames
