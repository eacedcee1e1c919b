use Rattle.auditor.proofs.TextVerdicts.{texts_parsed}
use Rattle.auditor.proofs.texts.audit_bytes.Goals as goal

pub returns-clause-headline : goal.returns-clause-headline
returns-clause-headline c accepted = texts_parsed c.text_gives_what_it_spells.ensures.side _ _ _ _ _ _ _
    c.in_ok-primary.ensures.exact c.in_ok-secondary.ensures.exact (c.audit_read.ensures.headline accepted)
