use Rattle.joined_answers.proofs.answer.has_carried.Goals as goal

pub returns-in-None : goal.returns-in-None
returns-in-None c = (λ t. absurd (cc), λ h. absurd (c.in-None.ensures h.0 h.1 h.2))
