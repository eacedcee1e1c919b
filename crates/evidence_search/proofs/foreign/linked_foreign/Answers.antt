use Rattle.plain_search.proofs.Collecting.{none_recent}
use Rattle.evidence_search.proofs.foreign.linked_foreign.Goals as goal

pub loop-grant-init : goal.loop-grant-init
loop-grant-init g c = none_recent (g.S.Lines.journals c.args.source.now) c.new-recent.result c.new-recent.ensures
