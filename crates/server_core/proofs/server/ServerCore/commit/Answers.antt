use Rattle.std.proofs.Common.{[], ap, subst, ◌∙◌}
use Rattle.std.specs.List.{AllByRecursion}
use Rattle.server_core.specs.Served.{receipts_in}
use Rattle.server_core.specs.Owing.{IsOwed}
use Rattle.server_core.specs.Saying.{AreBacked}
use Rattle.server_core.proofs.Owed.{held_as}
use Rattle.server_core.proofs.Said.{handed_backed, nothing_said}
use Rattle.server_core.proofs.server.ServerCore.commit.Goals as goal

pub invariant_of-result : goal.invariant_of-result
invariant_of-result g c = record {
  names = c.self.invariant.names;
  owed = held_as _ _ _ [] _ c.new.ensures.items tt;
  said = nothing_said (receipts_in c.in_ok-volume.volume.served) c.frames_of-frames.new.talk c.frames_of-frames.ensures.none;
}

pub returns-clause-owed : goal.returns-clause-owed
returns-clause-owed g c =
    subst (λ s. AllByRecursion (λ h. IsOwed s.own s.terms (receipts_in s.volume.served) h.answer)
    c.new-2.result.answers.items) c.self.view_is
    (held_as _ _ _ c.self.inside.held.items _ (ap (λ v. v.items) c.new-2.ensures.0) c.self.invariant.owed)

pub returns-clause-said : goal.returns-clause-said
returns-clause-said g c =
    subst (λ s. AreBacked (receipts_in s.volume.served) c.new-2.result.frames.items) c.self.view_is
    (handed_backed _ c.self.inside.talk _ (ap (λ v. v.items) c.new-2.ensures.1 ∙ c.frames_of-frames.ensures.frames)
    c.self.invariant.said)
