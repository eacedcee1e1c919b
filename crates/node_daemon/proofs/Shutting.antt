-- What a turn's look at the partner makes of whether a server may serve.
use Rattle.std.specs.Prelude.{◌≡◌, Option}
use Rattle.std.proofs.Common.{sym, subst}
use Rattle.std.specs.declared.time.Instant.{Instant}
use Rattle.service_state.specs.declared.service.PartnerView.{PartnerView}
use Rattle.service_state.specs.declared.service.ServiceState.{ServiceState}
use Rattle.service_state.specs.declared.service.ServiceState.TheVariants.{Open, HoldsOff, Shut}
use Rattle.service_state.specs.Service.{IsShut, IsShort, IsNextService}

-- once it is shut it stays so
pub shut_stays : (old new : ServiceState) (p : PartnerView) (now : Instant) → IsNextService old new p now → IsShut old
    → new ≡ old
shut_stays (Shut why) new p now next shut = next
shut_stays Open new p now next shut = absurd shut
shut_stays (HoldsOff since) new p now next shut = absurd shut

-- a session that says that the journal is short shuts it
pub short_shuts : (old new : ServiceState) (p : PartnerView) (now : Instant) → IsNextService old new p now
    → IsShort p.stage → IsShut new
short_shuts (Shut why) new p now next short = subst IsShut (sym next) tt
short_shuts Open new p now next short = next.0 short
short_shuts (HoldsOff since) new p now next short = next.0 short
