use Rattle.attribution.proofs.Deciding.{decides_past_open, decides_ends, decides_discharges, decides_named}
use Rattle.attribution.proofs.laws.tests_decide.Goals as goal

pub returns-clause-opened : goal.returns-clause-opened
returns-clause-opened c = decides_past_open

pub returns-clause-ends : goal.returns-clause-ends
returns-clause-ends c = decides_ends

pub returns-clause-clears : goal.returns-clause-clears
returns-clause-clears c = decides_discharges

pub returns-clause-names : goal.returns-clause-names
returns-clause-names c = decides_named
