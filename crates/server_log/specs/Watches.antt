-- What is known of what lasts.
use Rattle.server_status.specs.declared.status.ClockState.{ClockState}
use Rattle.server_status.specs.declared.status.ClockState.TheVariants.{Right, Behind, Set}
use Rattle.server_log.specs.declared.watch.SeenClock.{SeenClock}
use Rattle.server_log.specs.declared.watch.SeenClock.TheVariants.{Right as IsRight, Behind as IsBehind, Set as WasSet}
use Rattle.server_status.specs.declared.serving.JournalState.{JournalState}
use Rattle.server_status.specs.declared.serving.JournalState.TheVariants.{Whole, Older}

-- a journal that was older than what its partner took stays so, and what it lacks is what was seen first
abbrev pub journal_seen : (known seen : JournalState) → JournalState
journal_seen Whole seen = seen
journal_seen (Older shortage) seen = Older shortage

-- what a clock that is seen so is
abbrev pub clock_seen : SeenClock → ClockState
clock_seen IsRight = Right
clock_seen IsBehind = Behind
clock_seen (WasSet shows expected) = Set
