use Rattle.link_auth.proofs.StreamLaws.{written_is_read}
use Rattle.link_auth.proofs.ApartLaws.{one_reading, never_both}
use Rattle.link_auth.proofs.laws.records_stand_apart.Goals as goal

pub returns-clause-one : goal.returns-clause-one
returns-clause-one c = one_reading

pub returns-clause-never_both : goal.returns-clause-never_both
returns-clause-never_both c = never_both

pub returns-clause-written : goal.returns-clause-written
returns-clause-written c = written_is_read
