use Rattle.report_render.proofs.Harmless.{all_harmless}
use Rattle.report_render.proofs.laws.escaped_is_harmless.Goals as goal

pub returns : goal.returns
returns c = all_harmless
