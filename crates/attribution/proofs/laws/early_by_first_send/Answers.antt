use Rattle.attribution.proofs.FirstSends.{early_by_first_send}
use Rattle.attribution.proofs.laws.early_by_first_send.Goals as goal

pub returns : goal.returns
returns c = early_by_first_send
