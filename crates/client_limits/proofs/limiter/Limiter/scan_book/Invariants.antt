use Rattle.std.proofs.Common.{◌≡◌}
use Rattle.client_limits.proofs.limiter.Limiter.scan_book.Given as goal

abbrev pub invariant-loop-index : goal.invariant-loop-index
invariant-loop-index l = (l.self.limits ≡ l.fn.self.limits) × (l.self.reach ≡ l.fn.self.reach)
