use Rattle.std.proofs.Common.{drop}
use Rattle.std.specs.Prelude.{codes}
use Rattle.std.proofs.lemmas.Slice.Eq.{bytes_eq-Decides}
use Rattle.link_notices.proofs.nonce.ends_so.Goals as goal

pub returns : goal.returns
returns c = rw (c.is_end.ensures, c.split_at.ensures.back)
    (bytes_eq-Decides (drop 24 c.args.nonce.now) (codes "fengtnk2"))
