use Rattle.server_core.proofs.Keeping.{rolls_keep}
use Rattle.server_core.proofs.laws.roll_keeps_volumes.Goals as goal

pub returns : goal.returns
returns c =
    rolls_keep c.text_gives_the_volume_it_spells.ensures c.first_lines_are_parsed.ensures
    c.left_are_legal.ensures c.left_are_first.ensures c.next_is_its_servers.ensures
