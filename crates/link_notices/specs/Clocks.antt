-- Two clocks, one of which asked the other. All numbers are milliseconds.
use Rattle.std.specs.Prelude.{◌≡◌, ◌⊎◌, ℕ, ◌+◌, ◌*◌, ◌<◌, ◌≤◌, pos, ◌+ℤ◌, ◌≤ℤ◌}
use Rattle.link_notices.specs.declared.clocks.ClockExchange.{ClockExchange}
use Rattle.link_notices.specs.declared.clocks.ClockRange.{ClockRange}

-- Of two clocks within this skew of true time neither is ahead of the other by more than twice it. The partner's is
-- ahead by `answered - back` at least and by `answered - asked` at most: all of this lies outside of those bounds,
pub record IsTooFarOff (skew : ℕ) (e : ClockExchange) : Type 0 where
  pub forward : e.asked ≤ e.back
  pub outside : (e.back + 2 * skew < e.answered) ⊎ (e.answered + 2 * skew < e.asked)

-- or all of it within
pub record IsAgreed (skew : ℕ) (e : ClockExchange) : Type 0 where
  pub forward : e.asked ≤ e.back
  pub ahead : e.answered ≤ e.asked + 2 * skew
  pub late : e.back ≤ e.answered + 2 * skew

-- ---- what happened

-- a clock within this skew of true time may show the reading at this moment
pub record MayShow (skew moment reading : ℕ) : Type 0 where
  pub most : reading ≤ moment + skew
  pub least : moment ≤ reading + skew

-- The three readings were shown at three moments of true time, one after another, each by a clock within this skew of
-- it: neither clock was set meanwhile to what is further off.
pub record IsExchange (skew : ℕ) (e : ClockExchange) : Type 0 where
  pub asking : ℕ
  pub answering : ℕ
  pub backing : ℕ
  pub first : asking ≤ answering
  pub second : answering ≤ backing
  pub asked : MayShow skew asking e.asked
  pub answered : MayShow skew answering e.answered
  pub back : MayShow skew backing e.back

-- two right clocks are never too far off
abbrev pub RightIsNeverOff : Type 0
RightIsNeverOff = (e : ClockExchange) (skew judged : ℕ) → skew ≤ judged → IsExchange skew e → IsTooFarOff judged e → ⊥

-- ---- by how much one is ahead

-- the range that an exchange shows
pub record IsRange (e : ClockExchange) (r : ClockRange) : Type 0 where
  pub least : r.least +ℤ pos e.back ≡ pos e.answered
  pub most : r.most +ℤ pos e.asked ≡ pos e.answered

-- what a clock shows at each moment of true time: from one of these moments to the other it isn't set back
pub record GoesForward (clock : ℕ → ℕ) (begin end : ℕ) : Type 0 where
  pub each : (s t : ℕ) → begin ≤ s → s ≤ t → t ≤ end → clock s ≤ clock t

-- The three readings were shown at three moments, one after another, the middle one by the partner's clock. Nothing is
-- known of that clock, nor of how long the question and the answer were under way.
pub record IsAsked (own other : ℕ → ℕ) (e : ClockExchange) : Type 0 where
  pub asking : ℕ
  pub answering : ℕ
  pub backing : ℕ
  pub first : asking ≤ answering
  pub second : answering ≤ backing
  pub asked : e.asked ≡ own asking
  pub answered : e.answered ≡ other answering
  pub back : e.back ≡ own backing
  pub forward : GoesForward own asking backing

-- where the one clock shows this, the other is ahead of it by what lies in the range
pub record IsAheadBy (own other : ℕ) (r : ClockRange) : Type 0 where
  pub least : (r.least +ℤ pos own) ≤ℤ pos other
  pub most : pos other ≤ℤ (r.most +ℤ pos own)

-- so it was when the partner's clock was read
abbrev pub RangeHolds : Type 0
RangeHolds = (own other : ℕ → ℕ) (e : ClockExchange) (r : ClockRange) → IsRange e r → (x : IsAsked own other e)
    → IsAheadBy (own x.answering) (other x.answering) r
