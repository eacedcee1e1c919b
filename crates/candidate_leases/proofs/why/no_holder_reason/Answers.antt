use Rattle.candidate_leases.proofs.why.no_holder_reason.Goals as goal

pub returns-in-None : goal.returns-in-None
returns-in-None g c = c.why_by.ensures _ (record { covered = c.in_default.ensures; one = c.in-None.ensures })
