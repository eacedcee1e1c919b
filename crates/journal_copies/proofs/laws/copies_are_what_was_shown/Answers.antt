use Rattle.journal_copies.proofs.Shown.{copies_show}
use Rattle.journal_copies.proofs.laws.copies_are_what_was_shown.Goals as goal

pub returns : goal.returns
returns c = copies_show c.joined_is_legal.ensures c.text_gives_the_volume_it_spells.ensures
