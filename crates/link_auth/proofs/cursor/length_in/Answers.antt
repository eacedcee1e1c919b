use Rattle.std.proofs.Common.{◌∙◌}
use Rattle.std.proofs.lemmas.Nat.{be_bytes_2}
use Rattle.link_auth.proofs.cursor.length_in.Goals as goal

pub returns-clause-spelled : goal.returns-clause-spelled
returns-clause-spelled c =
    be_bytes_2 c.args.head.now _ c.told-head c.fits-head (c.from.ensures ∙ c.from_be_bytes.ensures)
