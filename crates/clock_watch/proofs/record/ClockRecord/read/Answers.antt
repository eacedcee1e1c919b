use Rattle.clock_watch.proofs.RecordLaws.{lines_found, lines_again}
use Rattle.clock_watch.proofs.record.ClockRecord.read.Goals as goal

pub returns-clause-found : goal.returns-clause-found
returns-clause-found c =
    lines_found c.record_in.result c.args.text.now c.new.result c.new.ensures c.record_in.ensures

pub returns-clause-only : goal.returns-clause-only
returns-clause-only c r h same =
    lines_again c.record_in.result c.args.text.now c.new.result r c.new.ensures c.record_in.ensures h same
