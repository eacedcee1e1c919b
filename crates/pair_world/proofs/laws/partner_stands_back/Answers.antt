use Rattle.pair_world.proofs.DownLaws.{partner_stands_back, ack_was_told, ends_in_time}
use Rattle.pair_world.proofs.laws.partner_stands_back.Goals as goal

pub returns-clause-waits : goal.returns-clause-waits
returns-clause-waits c = partner_stands_back

pub returns-clause-told : goal.returns-clause-told
returns-clause-told c = ack_was_told

pub returns-clause-ends : goal.returns-clause-ends
returns-clause-ends c = ends_in_time
