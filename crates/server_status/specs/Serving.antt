-- Whether a server serves clients, and why not.
use Rattle.std.specs.Prelude.{ℕ, Option, Some, None, Bool, true, false}
use Rattle.link_notices.specs.declared.clocks.ClockVerdict.{ClockVerdict}
use Rattle.link_notices.specs.declared.clocks.ClockVerdict.TheVariants.{Agrees, TooFarOff, Unknown}
use Rattle.server_timers.specs.declared.due_actions.Room.{Room}
use Rattle.server_timers.specs.declared.due_actions.Room.TheVariants.{Enough, FullWithinHour, Full}
use Rattle.server_status.specs.declared.status.ClockState.{ClockState}
use Rattle.server_status.specs.declared.status.ClockState.TheVariants.{Right, Behind, Set}
use Rattle.server_status.specs.declared.status.PartnerState.{PartnerState}
use Rattle.server_status.specs.declared.status.PartnerState.TheVariants.{Normal, Waiting, Down}
use Rattle.server_status.specs.declared.serving.ServingInput.{ServingInput}
use Rattle.server_status.specs.declared.serving.ServingState.{ServingState}
use Rattle.server_status.specs.declared.serving.ServingState.TheVariants.{Yes, No}
use Rattle.server_status.specs.declared.serving.NotServing.{NotServing}
use Rattle.server_status.specs.declared.serving.NotServing.TheVariants.{WaitsForPartner, ClockBehind, ClockSet}
use Rattle.server_status.specs.declared.serving.NotServing.TheVariants.{AsksPartnerClock, PartnerClockDiffers, JournalOlder}
use Rattle.server_status.specs.declared.serving.NotServing.TheVariants.{VolumeFull, GoesOnIn}
use Rattle.server_status.specs.declared.serving.JournalState.{JournalState}
use Rattle.server_status.specs.declared.serving.JournalState.TheVariants.{Whole, Older}

-- where nothing else is against it, a volume that has room serves
abbrev pub by_room : Room → ServingState
by_room Enough = Yes
by_room FullWithinHour = Yes
by_room Full = No VolumeFull

-- why a server that waits does: its partner's clock, which is known to be too far off, or its partner's answer
abbrev pub partner_reason : Option ClockVerdict → NotServing
partner_reason None = WaitsForPartner
partner_reason (Some Agrees) = WaitsForPartner
partner_reason (Some TooFarOff) = PartnerClockDiffers
partner_reason (Some Unknown) = WaitsForPartner

-- a server that waits for its partner serves nobody; one that takes it for down does
abbrev pub by_partner : PartnerState → Option ClockVerdict → Room → ServingState
by_partner Normal verdict room = by_room room
by_partner (Waiting since) verdict room = No (partner_reason verdict)
by_partner (Down since) verdict room = by_room room

-- nor does one that goes on in so many seconds
abbrev pub by_hold_off : Option ℕ → PartnerState → Option ClockVerdict → Room → ServingState
by_hold_off None standing verdict room = by_partner standing verdict room
by_hold_off (Some seconds) standing verdict room = No (GoesOnIn seconds)

-- nor one that asks its partner's clock before it begins
abbrev pub by_start : Bool → Option ℕ → PartnerState → Option ClockVerdict → Room → ServingState
by_start false goes_on_in standing verdict room = by_hold_off goes_on_in standing verdict room
by_start true goes_on_in standing verdict room = No AsksPartnerClock

-- nor one whose clock is behind, or was set
abbrev pub by_clock : ClockState → Bool → Option ℕ → PartnerState → Option ClockVerdict → Room → ServingState
by_clock Right asks goes_on_in standing verdict room = by_start asks goes_on_in standing verdict room
by_clock Behind asks goes_on_in standing verdict room = No ClockBehind
by_clock Set asks goes_on_in standing verdict room = No ClockSet

-- nor one whose journal is older than what its partner took, which goes before all else
abbrev pub by_journal : JournalState → ClockState → Bool → Option ℕ → PartnerState → Option ClockVerdict → Room → ServingState
by_journal Whole clock asks goes_on_in standing verdict room = by_clock clock asks goes_on_in standing verdict room
by_journal (Older shortage) clock asks goes_on_in standing verdict room = No JournalOlder

abbrev pub serving_of : ServingInput → ServingState
serving_of i = by_journal i.journal i.clock i.asks_clock i.goes_on_in i.standing i.partner_clock i.room
