use Rattle.plain_search.proofs.Collecting.{none_recent}
use Rattle.evidence_search.proofs.pieces.reaches.Goals as goal

pub loop-at-init : goal.loop-at-init
loop-at-init g c = none_recent (g.S.Lines.journals c.args.source.now) c.new-recent.result c.new-recent.ensures
