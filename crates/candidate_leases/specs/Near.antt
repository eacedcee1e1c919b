-- What two journals show of a moment: of the delegations that single lines tell of, and of releases of these.
use Rattle.std.specs.Prelude.{◌≡◌, ◌≢◌, ⊤, ℕ, ◌+◌, ◌-◌, ◌*◌, ◌<◌, ◌≤◌, ◌⊎◌, List, Option, Some, None, Contains as Has}
use Rattle.std.specs.Prelude.{if◌then◌else◌, nat_eq}
use Rattle.binding_rules.specs.declared.role.Role.{Role}
use Rattle.causal_order.specs.Journals.{Journals}
use Rattle.attribution.specs.declared.delegation.Lasting.{Lasting}
use Rattle.attribution.specs.declared.delegation.Lasting.TheVariants.{For, Until}
use Rattle.attribution.specs.Run.{infinity}
use Rattle.attribution.specs.Acceptance.{IsNew}
use Rattle.evidence_report.specs.declared.mark.LineReading.{LineReading}
use Rattle.candidate_leases.specs.declared.at_moment.AtMoment.{AtMoment}
use Rattle.candidate_leases.specs.declared.at_moment.AtMoment.TheVariants.{NotBegun, Ended, GivenBack, Carried}
use Rattle.candidate_leases.specs.declared.at_moment.AtMoment.TheVariants.{Beginning, Ending, MayBeGivenBack}
use Rattle.candidate_leases.specs.declared.at_moment.AtMoment.TheVariants.{EarlierVolumes, LaterVolumes, Shown}
use Rattle.candidate_leases.specs.Conditions.{Asked, IsPastClose, IsBeforeClose, MayPrecedePartner}
use Rattle.candidate_leases.specs.Conditions.{IsPastPartner}

-- before this moment nothing that was granted at the reading was its client's
abbrev pub may_begin : (reading skew : ℕ) → ℕ
may_begin reading skew = reading - skew

-- from this moment on it isn't any longer (RFC 8415, section 21.22: the valid lifetime); none where it never ends
abbrev pub ends_by : (skew transit reading : ℕ) → Lasting → Option ℕ
ends_by skew transit reading (For valid) =
    if nat_eq valid infinity then None else Some (reading + skew + transit + valid * 1000)
ends_by skew transit reading (Until end) = Some (end + skew + transit)

-- up to this moment it surely is, if nothing gives it back; none where it never ends
abbrev pub shows_to : (skew reading valid : ℕ) → Option ℕ
shows_to skew reading valid = if nat_eq valid infinity then None else Some (reading + valid * 1000 - skew)

-- ---- what lines show at a moment

-- the line was surely written after the moment, and what it tells of began there
abbrev pub IsLater : Asked → LineReading → Lasting → Type 0
IsLater q line lasting = IsNew lasting × (q.at + q.skew < line.reading)

-- what it tells of had surely ended by this moment, which isn't later
abbrev pub HasEndedBy : Asked → LineReading → Lasting → ℕ → Type 0
HasEndedBy q line lasting end = (ends_by q.skew q.transit line.reading lasting ≡ Some end) × (end ≤ q.at)

abbrev pub HasEnded : Asked → LineReading → Lasting → Type 0
HasEnded q line lasting = (end : ℕ) × HasEndedBy q line lasting end

-- the one line was surely written after the other: by their journal, or by clocks
abbrev pub IsSurelyAfter : ℕ → (line other : LineReading) → Type 0
IsSurelyAfter skew line other =
    ((line.at.side ≡ other.at.side) × (other.at.number < line.at.number))
    ⊎ ((line.at.side ≢ other.at.side) × (other.reading + skew + skew < line.reading))

-- the release came surely behind the line and by the moment: what the line tells of had been given back
abbrev pub EndsIt : Asked → LineReading → LineReading → Type 0
EndsIt q line release = IsSurelyAfter q.skew release line × (release.reading + q.skew ≤ q.at)

-- it may have: it isn't surely before the line, nor after the moment
abbrev pub MayEndIt : Asked → LineReading → LineReading → Type 0
MayEndIt q line release = (IsSurelyAfter q.skew line release → ⊥) × (release.reading ≤ q.at + q.skew)

-- by these releases, what the line tells of may have been its client's at the moment
pub record IsPossible (q : Asked) (line : LineReading) (lasting : Lasting) (releases : List LineReading) : Type 0 where
  pub begun : IsLater q line lasting → ⊥
  pub lasts : HasEnded q line lasting → ⊥
  pub kept : (r : LineReading) → Has releases r → EndsIt q line r → ⊥

-- it surely lasts up to this moment
abbrev pub AddsUpTo : Asked → LineReading → Lasting → ℕ → Type 0
AddsUpTo q line (For valid) end = shows_to q.skew line.reading valid ≡ Some end
AddsUpTo q line (Until _) end = ⊥

-- By the line and these releases it was its client's: it had begun and not ended, and none of these gave it back.
pub record IsShownByLines (q : Asked) (line : LineReading) (lasting : Lasting) (releases : List LineReading)
    : Type 0 where
  pub new : IsNew lasting
  pub begun : line.reading + q.skew + q.transit ≤ q.at
  pub lasts : (end : ℕ) → AddsUpTo q line lasting end → q.at < end
  pub kept : (r : LineReading) → Has releases r → MayEndIt q line r → ⊥

-- No volume that isn't here gave it back by the moment: earlier ones of its server's partner ended before the line, and
-- later ones of either begin after the moment. (Its server's own earlier volumes end before the line anyway.)
pub record IsShownByVolumes (js : Journals) (q : Asked) (line : LineReading) : Type 0 where
  pub earlier : IsPastPartner js q line
  pub later : (side : Role) → IsBeforeClose js q side

-- it was its client's, in every run that leaves these journals (specs/Laws)
abbrev pub IsShown : Journals → Asked → LineReading → Lasting → List LineReading → Type 0
IsShown js q line lasting releases = IsShownByLines q line lasting releases × IsShownByVolumes js q line

-- what is said of the moment is so
abbrev pub IsSo : Journals → Asked → LineReading → Lasting → List LineReading → AtMoment → Type 0
IsSo js q line lasting releases NotBegun = IsLater q line lasting
IsSo js q line lasting releases (Ended end) = HasEndedBy q line lasting end
IsSo js q line lasting releases (GivenBack release) = Has releases release × EndsIt q line release
IsSo js q line lasting releases Carried = IsNew lasting → ⊥
IsSo js q line lasting releases (Beginning begun) = (begun ≡ line.reading + q.skew + q.transit) × (q.at < begun)
IsSo js q line lasting releases (Ending end) = AddsUpTo q line lasting end × (end ≤ q.at)
IsSo js q line lasting releases (MayBeGivenBack release) = Has releases release × MayEndIt q line release
IsSo js q line lasting releases (EarlierVolumes side needed) = MayPrecedePartner js q line side needed
IsSo js q line lasting releases (LaterVolumes side needed closed) = IsPastClose js q side needed closed
IsSo js q line lasting releases Shown = IsShown js q line lasting releases

-- the words for what may have been
abbrev pub SaysPossible : AtMoment → Type 0
SaysPossible NotBegun = ⊥
SaysPossible (Ended _) = ⊥
SaysPossible (GivenBack _) = ⊥
SaysPossible _ = ⊤

-- It may have been its client's within a day of the moment. What is carried began before its line, whose reading says
-- nothing of it.
abbrev pub IsNear : Asked → LineReading → Lasting → Type 0
IsNear q line lasting = (IsNew lasting → line.reading ≤ q.at + q.skew + 86400000)
    × ((end : ℕ) → ends_by q.skew q.transit line.reading lasting ≡ Some end → q.at ≤ end + 86400000)
