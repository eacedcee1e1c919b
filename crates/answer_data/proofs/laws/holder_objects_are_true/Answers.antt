use Rattle.std.proofs.Common.{refl}
use Rattle.answer_data.proofs.Named.{held_is_accepted, object_names}
use Rattle.answer_data.proofs.laws.holder_objects_are_true.Goals as goal

pub returns-clause-said : goal.returns-clause-said
returns-clause-said c claim spans access = (
  record { named = refl; certificate = refl },
  record { named = refl; certificate = refl },
)

pub returns-clause-objects : goal.returns-clause-objects
returns-clause-objects c a b q settings ends claim command status s notes line answer says object read are = (
  (object.0, object.2, object_names command status s notes claim object.0 object.1 says),
  c.accepted_rulings_are_true.ensures a b q.skew q.transit claim
      (held_is_accepted a b q settings claim answer.searched) read are,
)
