use Rattle.std.proofs.Common.{refl}
use Rattle.notice_exchange.proofs.Steps.{puts_nothing}
use Rattle.notice_exchange.proofs.talk.NoticeTalk.take.Goals as goal

pub returns-in_default : goal.returns-in_default
returns-in_default c = (_, puts_nothing _ _, tt)
