-- One end of a connection over which frames and notices go.
use Rattle.std.specs.Prelude.{◌≡◌, ℕ, ◌-◌, ◌*◌, ◌≤◌, Bool, true, false, List, [], ◌∷◌, ◌++◌, Option, Some, None}
use Rattle.std.specs.Time.{instant_nanos}
use Rattle.std.specs.declared.time.Instant.{Instant}
use Rattle.link_notices.specs.declared.notice.Notice.{Notice}
use Rattle.notice_exchange.specs.Exchanges.{Exchange, MayJoin, heard}
use Rattle.notice_exchange.specs.declared.talk.LinkEvent.{LinkEvent}
use Rattle.notice_exchange.specs.declared.talk.LinkEvent.TheVariants.{Begins, Frames}

-- what the two have told each other, and whether they may join: from then on frames are taken
pub record Talk : Type 0 where
  pub exchange : Exchange
  pub may_join : Bool

-- What a part of the octets leads to: nothing, also where a notice was heard; the session begins by a notice with which
-- the two may join, once; and frames are handed on only after it.
pub data IsStep (t : Talk) : Option LinkEvent → Talk → Type 0 where
  passed : IsStep t None t
  hears : (n : Notice) (now : ℕ) → IsStep t None (record t { exchange = heard n now t.exchange })
  begins : (n : Notice) (now : ℕ) → t.may_join ≡ false → MayJoin (heard n now t.exchange)
      → IsStep t (Some Begins) (record { exchange = heard n now t.exchange; may_join = true })
  hands_on : (octets : List ℕ) → t.may_join ≡ true → IsStep t (Some (Frames octets)) t

-- what several parts lead to, one after another
pub data LeadsTo (first : Talk) : List LinkEvent → Talk → Type 0 where
  nothing : LeadsTo first [] first
  silent : (events : List LinkEvent) (old new : Talk) → LeadsTo first events old → IsStep old None new
      → LeadsTo first events new
  more : (events : List LinkEvent) (event : LinkEvent) (old new : Talk) → LeadsTo first events old
      → IsStep old (Some event) new → LeadsTo first (events ++ event ∷ []) new

-- behind what was there stands what several parts led to
pub record PutsBehind (first reached : Talk) (before after : List LinkEvent) : Type 0 where
  pub more : List LinkEvent
  pub appended : after ≡ before ++ more
  pub leads : LeadsTo first more reached

-- five seconds have passed by the monotonic clock
abbrev pub IsOverdue : (begun now : Instant) → Type 0
IsOverdue begun now = 5000000000 ≤ instant_nanos now - instant_nanos begun
