-- Why nobody is named: a list of reasons in their order, of which the first that holds is said.
use Rattle.std.specs.Prelude.{◌≡◌, ◌≢◌, ℕ, ◌+◌, List, Contains as Has}
use Rattle.binding_rules.specs.declared.role.Role.{Role}
use Rattle.binding_rules.specs.declared.role.Role.TheVariants.{Primary, Secondary}
use Rattle.causal_order.specs.Journals.{Journals}
use Rattle.plain_search.specs.declared.query.HolderQuery.{HolderQuery}
use Rattle.evidence_report.specs.declared.mark.LineReading.{LineReading}
use Rattle.candidate_leases.specs.declared.volume_ends.VolumeEnd.{VolumeEnd}
use Rattle.candidate_leases.specs.declared.volume_ends.VolumeEnd.TheVariants.{Open, Closed}
use Rattle.candidate_leases.specs.declared.volume_ends.VolumeEnds.{VolumeEnds}
use Rattle.candidate_leases.specs.declared.pools.PoolLine.{PoolLine}
use Rattle.candidate_leases.specs.declared.at_moment.AtMoment.TheVariants.{Carried as CarriedLease}
use Rattle.candidate_leases.specs.declared.candidates.CandidateLease.{CandidateLease}
use Rattle.candidate_leases.specs.declared.why.NoHolderReason.{NoHolderReason}
use Rattle.candidate_leases.specs.declared.why.NoHolderReason.TheVariants.{OutsidePools, BeforeFirstVolume, BeforeOpen}
use Rattle.candidate_leases.specs.declared.why.NoHolderReason.TheVariants.{AfterLastLine, PastEnd, SeveralCustomers}
use Rattle.candidate_leases.specs.declared.why.NoHolderReason.TheVariants.{Several, Carried, NotShown, Nobody}
use Rattle.candidate_leases.specs.Conditions.{asked_of, end_of, IsMet, IsUnmet, IsBeforeFirst, IsBeforeOpen}
use Rattle.candidate_leases.specs.Conditions.{IsPastOpen, IsPastClose, IsBeforeClose}
use Rattle.candidate_leases.specs.Near.{SaysPossible}

-- what is asked over two journals
pub record Case : Type 0 where
  pub journals : Journals
  pub query : HolderQuery
  pub ends : VolumeEnds

abbrev pub case_of : Journals → HolderQuery → VolumeEnds → Case
case_of js query ends = record { journals = js; query = query; ends = ends }

-- ---- conditions on the journals

-- the moment is surely before the first volumes of both sides began
abbrev pub PrecedesBoth : Case → Type 0
PrecedesBoth c = (side : Role) → (opened : ℕ) × IsBeforeFirst c.journals (asked_of c.query) side opened

-- The prefix is several customers': a pool that has an address of it has longer units.
abbrev pub IsSeveralUnits : Case → PoolLine → Type 0
IsSeveralUnits c pool = IsMet c.journals c.query.prefix (c.query.prefix.length + 1) pool

-- ---- conditions on the leases near the moment

-- the lease may have been its client's
abbrev pub MayBe : List CandidateLease → CandidateLease → Type 0
MayBe leases n = Has leases n × SaysPossible n.state

-- two clients or more may have had addresses of the prefix: by these lines
abbrev pub AreSeveral : List CandidateLease → (first other : LineReading) → Type 0
AreSeveral leases first other = (n : CandidateLease) × (m : CandidateLease) × MayBe leases n × MayBe leases m
    × (n.delegation.client ≢ m.delegation.client) × (n.line ≡ first) × (m.line ≡ other)

-- the lease may have been its client's, and began in a volume that isn't here
abbrev pub IsCarriedAt : List CandidateLease → LineReading → Type 0
IsCarriedAt leases line =
    (n : CandidateLease) × Has leases n × (n.state ≡ CarriedLease) × (n.line ≡ line)

-- ---- none of the first so many reasons holds

pub record IsInPools (c : Case) : Type 0 where
  pub pool : PoolLine
  pub met : IsMet c.journals c.query.prefix 0 pool

pub record IsInVolumes (c : Case) : Type 0 where
  pub pools : IsInPools c
  pub first : PrecedesBoth c → ⊥

pub record IsPastOpens (c : Case) : Type 0 where
  pub volumes : IsInVolumes c
  pub opens : (side : Role) → IsPastOpen c.journals (asked_of c.query) side

-- each volume that is still being written shows the moment
pub record IsWritten (c : Case) : Type 0 where
  pub opens : IsPastOpens c
  pub written : (side : Role) → end_of c.ends side ≡ Open → IsBeforeClose c.journals (asked_of c.query) side

-- both journals show the moment
pub record IsCovered (c : Case) : Type 0 where
  pub written : IsWritten c
  pub closes : (side : Role) → IsBeforeClose c.journals (asked_of c.query) side

pub record IsOneUnit (c : Case) : Type 0 where
  pub covered : IsCovered c
  pub one : IsUnmet c.journals c.query.prefix (c.query.prefix.length + 1)

pub record HasOneClient (c : Case) (leases : List CandidateLease) : Type 0 where
  pub unit : IsOneUnit c
  pub one : (n m : CandidateLease) → MayBe leases n → MayBe leases m → n.delegation.client ≡ m.delegation.client

pub record HasNoneCarried (c : Case) (leases : List CandidateLease) : Type 0 where
  pub client : HasOneClient c leases
  pub none : (line : LineReading) → IsCarriedAt leases line → ⊥

-- ---- what is said

-- the side's volume ends so and too early, and no side before it does
abbrev pub IsFirstEarly : Case → VolumeEnd → Role → (needed closed : ℕ) → Type 0
IsFirstEarly c end side needed closed = (end_of c.ends side ≡ end)
    × IsPastClose c.journals (asked_of c.query) side needed closed
    × (side ≡ Secondary → end_of c.ends Primary ≡ end → IsBeforeClose c.journals (asked_of c.query) Primary)

-- the reason holds, with the values that were compared, and none before it in the list does
abbrev pub IsWhy : Case → List CandidateLease → NoHolderReason → Type 0
IsWhy c leases OutsidePools = IsUnmet c.journals c.query.prefix 0
IsWhy c leases (BeforeFirstVolume primary secondary) = IsInPools c
    × IsBeforeFirst c.journals (asked_of c.query) Primary primary
    × IsBeforeFirst c.journals (asked_of c.query) Secondary secondary
IsWhy c leases (BeforeOpen side needed) = IsInVolumes c × IsBeforeOpen c.journals (asked_of c.query) side needed
    × (side ≡ Secondary → IsPastOpen c.journals (asked_of c.query) Primary)
IsWhy c leases (AfterLastLine side needed last) = IsPastOpens c × IsFirstEarly c Open side needed last
IsWhy c leases (PastEnd side needed closed) = IsWritten c × IsFirstEarly c Closed side needed closed
IsWhy c leases (SeveralCustomers unit_length) =
    IsCovered c × ((pool : PoolLine) × IsSeveralUnits c pool × (pool.unit_length ≡ unit_length))
IsWhy c leases (Several first other) = IsOneUnit c × AreSeveral leases first other
IsWhy c leases (Carried line) = HasOneClient c leases × IsCarriedAt leases line
IsWhy c leases NotShown = HasNoneCarried c leases × ((n : CandidateLease) × MayBe leases n)
IsWhy c leases Nobody = HasNoneCarried c leases × ((n : CandidateLease) → MayBe leases n → ⊥)
