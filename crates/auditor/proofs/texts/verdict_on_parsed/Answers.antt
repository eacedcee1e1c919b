use Rattle.auditor.proofs.TextVerdicts.{verdict_of}
use Rattle.auditor.proofs.texts.verdict_on_parsed.Goals as goal

pub returns : goal.returns
returns c = verdict_of _ _ _ _ _ _ _ _ _ c.in-Ok.is c.in-Ok-b.is c.in-Ok-read.ensures.exact
    c.verdict_on_journals.ensures
