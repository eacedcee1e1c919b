use Rattle.std.proofs.Common.{inl, inr}
use Rattle.causal_order.specs.Journals.{journals_of}
use Rattle.auditor.proofs.Pairs.{refused_not_accepted}
use Rattle.auditor.proofs.Snapshots.{goes_on}
use Rattle.attribution_desk.proofs.laws.accepted_rulings_are_true.Goals as goal

pub returns : goal.returns
returns c a b skew transit claim ruled read are = elim ruled [
  | inl out ↦ absurd (refused_not_accepted a b out)
  | inr h ↦ goes_on (journals_of a b) skew transit claim h.1 read are
]
