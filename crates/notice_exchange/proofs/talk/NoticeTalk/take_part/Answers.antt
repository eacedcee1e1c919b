use Rattle.std.proofs.Common.{rules}
use Rattle.notice_exchange.specs.Talks.{passed, hands_on}
use Rattle.notice_exchange.proofs.talk.NoticeTalk.take_part.Goals as goal

pub returns-in-Frames : goal.returns-in-Frames
returns-in-Frames c = rw (← c.self.view_is) (hands_on _ c.if-self.true)

pub returns-in-Ok-None : goal.returns-in-Ok-None
returns-in-Ok-None c = passed
