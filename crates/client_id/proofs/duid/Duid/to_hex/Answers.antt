use Rattle.std.proofs.Common.{◌∙◌}
use Rattle.client_id.proofs.TextLaws.{encoded}
use Rattle.client_id.proofs.duid.Duid.to_hex.Goals as goal

pub returns-in-Ok-clause-text : goal.returns-in-Ok-clause-text
returns-in-Ok-clause-text c = rw (← c.as_bytes.ensures.octets) (c.in-Ok.ensures
    ∙ encoded _ c.as_bytes.ensures.whole.fits)
