use Rattle.candidate_leases.proofs.why.uncovered.Goals as goal

pub returns-in-Some-before_volumes : goal.returns-in-Some-before_volumes
returns-in-Some-before_volumes g c =
    c.in-Some-before_volumes.ensures c.args.ends (record { pool = c.in-Some._pool; met = c.in-Some.ensures })

pub returns-in-Some-before_opens : goal.returns-in-Some-before_opens
returns-in-Some-before_opens g c = c.in-Some-before_opens.ensures c.args.ends
    (c.in_default-before_volumes.ensures c.args.ends (record { pool = c.in-Some._pool; met = c.in-Some.ensures }))

pub after_last_line-requires : goal.after_last_line-requires
after_last_line-requires g c = c.in_default-before_opens.ensures c.args.ends
    (c.in_default-before_volumes.ensures c.args.ends (record { pool = c.in-Some._pool; met = c.in-Some.ensures }))
