use Rattle.std.proofs.Common.{◌∙◌}
use Rattle.attribution_desk.proofs.Again.{not_again}
use Rattle.attribution_desk.proofs.reading_again.read_again.Goals as goal

pub returns-in-Ok-read-clause-again : goal.returns-in-Ok-read-clause-again
returns-in-Ok-read-clause-again g c =
    not_again (g.S.Lines.journals c.args.source.now) c.args.skew c.args.transit c.args.found.now
    c.in-Ok-read.certificate _ c.is_again.result c.in-Ok-read.ensures.exact
    (c.deref.ensures.value ∙ c.in-Ok.ensures.text) c.is_again.ensures c.if-is_again.false
