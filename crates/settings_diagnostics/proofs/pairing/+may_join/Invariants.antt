use Rattle.std.specs.Prelude.{length}
use Rattle.settings_diagnostics.proofs.pairing.+may_join.Given as goal

abbrev pub decreases-may_join : goal.decreases-may_join
decreases-may_join l = length l.conflicts.now
