use Rattle.candidate_leases.proofs.ShownLaw.{shown_is_valid}
use Rattle.candidate_leases.proofs.laws.shown_is_valid.Goals as goal

pub returns : goal.returns
returns c = shown_is_valid c.lawful_is_enough.ensures.legal
