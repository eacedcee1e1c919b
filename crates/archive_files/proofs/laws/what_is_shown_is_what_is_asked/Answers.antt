use Rattle.archive_files.proofs.Asked.{shows_what_is_asked}
use Rattle.archive_files.proofs.laws.what_is_shown_is_what_is_asked.Goals as goal

pub returns : goal.returns
returns c = shows_what_is_asked
