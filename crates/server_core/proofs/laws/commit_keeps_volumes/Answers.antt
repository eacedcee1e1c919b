use Rattle.server_core.proofs.Keeping.{settles_keep}
use Rattle.server_core.proofs.laws.commit_keeps_volumes.Goals as goal

pub returns : goal.returns
returns c =
    settles_keep c.text_gives_the_volume_it_spells.ensures c.first_lines_are_parsed.ensures
    c.left_are_legal.ensures c.left_are_first.ensures
