use Rattle.std.specs.Prelude.{length}
use Rattle.notice_exchange.proofs.exchange.+keeping_apart.Given as goal

abbrev pub decreases-keeping_apart : goal.decreases-keeping_apart
decreases-keeping_apart l = length l.differences.now
