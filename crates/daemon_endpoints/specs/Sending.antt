-- What clients are told: the answers that were held back, each to who asked, but for those that are too late.
use Rattle.std.specs.Prelude.{◌≡◌, ◌⊎◌, ℕ, ◌+◌, ◌-◌, ◌*◌, ◌/◌, ◌≤◌, nat_eq, if◌then◌else◌, List, [], ◌∷◌, ◌++◌}
use Rattle.std.specs.Time.{instant_nanos}
use Rattle.std.specs.declared.time.Instant.{Instant}
use Rattle.server_clocks.specs.declared.clocks.Moment.{Moment}
use Rattle.server_core.specs.declared.committed_output.HeldAnswer.{HeldAnswer}
use Rattle.daemon_endpoints.specs.declared.arrival.Arrival.{Arrival}

-- How many milliseconds an answer may wait before it leaves: half of the transit, rounded up, and the other half is the
-- network's. Without a transit it is a second.
abbrev pub longest_wait : (transit : ℕ) → ℕ
longest_wait transit = if nat_eq transit 0 then 1000 else (transit + 1) / 2

-- An answer may still leave: since what it answers was heard no more than that has passed on the monotonic clock.
abbrev pub IsInTime : (transit : ℕ) → (heard now : Instant) → Type 0
IsInTime transit heard now = instant_nanos now - instant_nanos heard ≤ 1000000 * longest_wait transit

-- gives says of a moment that a call of the clocks may have given it, and fails that a clock told no time. Sends says of
-- a way to those who send datagrams, before and behind a call, what was sent.

-- The clocks are asked for each answer. One that may still leave then goes to its peer, with its octets; of one that may
-- not, or where a clock tells no time, nothing is sent.
abbrev pub Leaves : {P Line : Type 0} → (gives : Moment → Type 0) → (fails : Type 0)
    → (Line → P → List ℕ → Line → Type 0) → (transit : ℕ) → Line → HeldAnswer (Arrival P) → Line → Type 0
Leaves gives fails Sends transit old held new =
    ((now : Moment) × gives now × IsInTime transit held.answer.peer.heard.instant now.instant
    × Sends old held.answer.peer.peer held.answer.octets new)
    ⊎ (((now : Moment) × gives now × (IsInTime transit held.answer.peer.heard.instant now.instant → ⊥) × (new ≡ old))
    ⊎ (fails × (new ≡ old)))

-- These answers, one after the other, from the first way on.
pub data AllLeave {P Line : Type 0} (gives : Moment → Type 0) (fails : Type 0)
    (Sends : Line → P → List ℕ → Line → Type 0) (transit : ℕ) (first : Line)
    : List (HeldAnswer (Arrival P)) → Line → Type 0 where
  none : AllLeave gives fails Sends transit first [] first
  more : (answers : List (HeldAnswer (Arrival P))) (held : HeldAnswer (Arrival P)) (old new : Line)
      → AllLeave gives fails Sends transit first answers old → Leaves gives fails Sends transit old held new
      → AllLeave gives fails Sends transit first (answers ++ held ∷ []) new
