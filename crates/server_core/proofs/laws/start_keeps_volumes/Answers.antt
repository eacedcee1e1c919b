use Rattle.server_core.proofs.Starts.{starts_keep}
use Rattle.server_core.proofs.laws.start_keeps_volumes.Goals as goal

pub returns : goal.returns
returns c =
    starts_keep c.text_gives_the_volume_it_spells.ensures c.first_lines_are_parsed.ensures
    c.left_are_legal.ensures c.left_are_first.ensures c.next_is_its_servers.ensures
