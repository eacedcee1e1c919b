use Rattle.std.proofs.Common.{◌∙◌, ap}
use Rattle.server_core.proofs.Kept.{next_begun}
use Rattle.server_core.proofs.starting.end.Goals as goal

pub returns-in-Ok-rolled-clause-has : goal.returns-in-Ok-rolled-clause-has
returns-in-Ok-rolled-clause-has g c =
    next_begun _ _ _ _ _ _ _ _ (ap (λ s. s.journal) (c.new-volume.ensures.served ∙ c.in_ok-served.ensures))
    (ap (λ s. s.volume) c.server_of.ensures) (ap (λ s. s.names) c.server_of.ensures)
    c.in-Ok-rolled.ensures.ended.0 c.in-Ok-rolled.ensures.ended.1 c.in-Ok-rolled.ensures.next
    c.in-Ok-rolled.ensures.begun
