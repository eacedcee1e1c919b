use Rattle.binding_rules.specs.declared.role.Role.TheVariants.{Primary, Secondary}
use Rattle.attribution_desk.proofs.Intakes.{parsed_closed}
use Rattle.attribution_desk.proofs.intake.Intake.finish.Goals as goal

pub returns-clause-primary_closed : goal.returns-clause-primary_closed
returns-clause-primary_closed c = parsed_closed c.text_gives_what_it_spells.ensures.side c.written_is_closed.ensures
    Primary _ _ (c.finish.ensures _ _ c.requires.1.primary)

pub returns-clause-secondary_closed : goal.returns-clause-secondary_closed
returns-clause-secondary_closed c = parsed_closed c.text_gives_what_it_spells.ensures.side c.written_is_closed.ensures
    Secondary _ _ (c.finish-2.ensures _ _ c.requires.1.secondary)
