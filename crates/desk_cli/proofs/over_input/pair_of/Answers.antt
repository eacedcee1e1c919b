use Rattle.std.proofs.Common.{[]}
use Rattle.binding_rules.specs.declared.role.Role.TheVariants.{Primary, Secondary}
use Rattle.attribution_desk.proofs.Intakes.{parsed_closed}
use Rattle.desk_cli.proofs.over_input.pair_of.Goals as goal

pub returns-clause-primary_closed : goal.returns-clause-primary_closed
returns-clause-primary_closed g c =
    let taken = c.in_ok-intake.ensures.taken in
    parsed_closed c.text_gives_what_it_spells.ensures.side c.written_is_closed.ensures Primary _ _
    (c.finish-pair.ensures.primary taken.0 (taken.1 [] c.new.ensures))

pub returns-clause-secondary_closed : goal.returns-clause-secondary_closed
returns-clause-secondary_closed g c =
    let taken = c.in_ok-intake.ensures.taken in
    parsed_closed c.text_gives_what_it_spells.ensures.side c.written_is_closed.ensures Secondary _ _
    (c.finish-pair.ensures.secondary taken.0 (taken.1 [] c.new.ensures))
