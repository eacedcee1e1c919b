use Rattle.desk_reports.proofs.Opened.{read_so}
use Rattle.desk_reports.proofs.telling.claim_in.Goals as goal

pub returns : goal.returns
returns c = read_so c.args.text.now c.read.result c.read.ensures.found c.read.ensures.exact
