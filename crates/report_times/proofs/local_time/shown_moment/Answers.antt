use Rattle.report_times.proofs.LocalTimes.{not_once}
use Rattle.report_times.proofs.local_time.shown_moment.Goals as goal

pub returns-in-Twice-clause-none : goal.returns-in-Twice-clause-none
returns-in-Twice-clause-none c = not_once c.args.zone.now.table c.args.text.now c.args.shown c.requires c.in-Twice.ensures.1

pub returns-in-Never-clause-none : goal.returns-in-Never-clause-none
returns-in-Never-clause-none c = not_once c.args.zone.now.table c.args.text.now c.args.shown c.requires c.in-Never.ensures.1

pub returns-in-Outside-clause-none : goal.returns-in-Outside-clause-none
returns-in-Outside-clause-none c = not_once c.args.zone.now.table c.args.text.now c.args.shown c.requires c.in-Outside.ensures
