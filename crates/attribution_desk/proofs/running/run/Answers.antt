use Rattle.attribution_desk.proofs.WrittenAnswers.{audit_says_true, batch_says_true, find_says_true, who_says_true}
use Rattle.attribution_desk.proofs.running.run.Goals as goal

pub returns-in-Audit-clause-headline : goal.returns-in-Audit-clause-headline
returns-in-Audit-clause-headline g c =
    audit_says_true c.accepted_texts_are_true.ensures _ _ _ c.audit_input.result _ c.in-Audit.skew c.in-Audit.transit
    c.in-Audit.is c.audit_input.ensures.written

pub returns-in-Batch-clause-headline : goal.returns-in-Batch-clause-headline
returns-in-Batch-clause-headline g c =
    batch_says_true c.accepted_texts_are_true.ensures _ _ _ c.batch_input.result _ c.in-Batch.skew c.in-Batch.transit
    c.in-Batch.workers c.in-Batch.is c.batch_input.ensures.written

pub returns-in-Find-clause-headline : goal.returns-in-Find-clause-headline
returns-in-Find-clause-headline g c =
    find_says_true c.accepted_texts_are_true.ensures _ _ _ c.search_input.result _ c.certificates_are_spelled.ensures
    c.in-Find.query c.in-Find.is c.search_input.ensures.written

pub returns-in-Who-clause-headline : goal.returns-in-Who-clause-headline
returns-in-Who-clause-headline g c =
    who_says_true c.accepted_texts_are_true.ensures _ _ _ c.search_input-in-Who.result _ c.certificates_are_spelled.ensures
    c.in-Who.query c.in-Who.settings c.in-Who.is c.search_input-in-Who.ensures.written
