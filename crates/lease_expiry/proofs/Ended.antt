-- Leases that were ended, one after the other.
use Rattle.std.specs.Prelude.{◌≡◌, ℕ, Bool, true, false}
use Rattle.server_core.specs.ServerStates.{CoreState}
use Rattle.lease_expiry.specs.Expiring.{AreEnded, none, more, EndsNext}

module _ {P : Type 0} (by now : ℕ) (first : CoreState P) where
  pub nothing_ended : AreEnded by now first first
  nothing_ended = none

  pub one_more : (old new : CoreState P) (r : Bool) → r ≡ true → AreEnded by now first old
      → EndsNext r by now old new → AreEnded by now first new
  one_more old new true is ended next = more old new ended next
  one_more old new false is ended next = absurd (cc)
