use Rattle.notice_exchange.proofs.Steps.{hears_one, begins_by}
use Rattle.notice_exchange.proofs.talk.NoticeTalk.take_notice.Goals as goal

pub returns-in-Asks : goal.returns-in-Asks
returns-in-Asks c = rw (← c.self.view_is) (hears_one _ _ c.args.notice c.args.now c.in-Ok.ensures)

pub returns-in-Joins : goal.returns-in-Joins
returns-in-Joins c = rw (← c.self.view_is) (hears_one _ _ c.args.notice c.args.now c.in-Ok.ensures)

pub returns-in-Joins-2 : goal.returns-in-Joins-2
returns-in-Joins-2 c =
    rw (← c.self.view_is)
    (begins_by _ _ c.args.notice c.args.now c.in-Ok.ensures c.if-self.false c.in-Joins.ensures)
