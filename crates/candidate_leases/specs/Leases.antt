-- The delegations of addresses of a prefix that lines tell of, round a moment.
use Rattle.std.specs.Prelude.{◌≡◌, ◌↔◌, ℕ, List, [], ◌∷◌, Option, Some, None, Contains as Has}
use Rattle.prefix_range.specs.Prefix.{Prefix, Overlaps}
use Rattle.causal_order.specs.declared.reference.Ref.{Ref}
use Rattle.journal_lines.specs.declared.line.Line.{Line}
use Rattle.causal_order.specs.Journals.{Journals, Names}
use Rattle.attribution.specs.declared.delegation.Delegation.{Delegation}
use Rattle.attribution.specs.Acceptance.{Tells, GivesBack}
use Rattle.evidence_report.specs.declared.mark.LineReading.{LineReading}
use Rattle.evidence_report.specs.Marks.{Reads}
use Rattle.candidate_leases.specs.declared.at_moment.AtMoment.TheVariants.{Shown}
use Rattle.candidate_leases.specs.declared.candidates.CandidateLease.{CandidateLease}
use Rattle.candidate_leases.specs.Conditions.{Asked}
use Rattle.candidate_leases.specs.Near.{IsNear, IsSo, IsPossible, SaysPossible, IsShown}

-- exactly the releases of the delegation, with their readings
pub record AreReleaseMarks (js : Journals) (d : Delegation) (marks : List LineReading) : Type 0 where
  pub all : (r : Ref) → GivesBack js r d → (m : LineReading) × Has marks m × (m.at ≡ r)
  pub only : (m : LineReading) → Has marks m → GivesBack js m.at d × Reads js m.at m.reading

-- the lines that these references name, with their readings
pub record AreMarksOf (js : Journals) (refs : List Ref) (marks : List LineReading) : Type 0 where
  pub all : (r : Ref) (l : Line) → Has refs r → Names js r l → (m : LineReading) × Has marks m × (m.at ≡ r)
  pub only : (m : LineReading) → Has marks m → Has refs m.at × Reads js m.at m.reading

-- every line that tells of a delegation of an address of the prefix is among these
abbrev pub AreConcerning : Journals → Prefix → List Ref → Type 0
AreConcerning js prefix refs = (r : Ref) (d : Delegation) → Tells js r d → Overlaps d.prefix prefix → Has refs r

-- what is shown of a delegation that a line tells of
pub record IsNearLease (js : Journals) (prefix : Prefix) (q : Asked) (n : CandidateLease) : Type 0 where
  pub tells : Tells js n.line.at n.delegation
  pub reads : Reads js n.line.at n.line.reading
  pub overlaps : Overlaps n.delegation.prefix prefix
  pub near : IsNear q n.line n.delegation.lasting
  pub releases : List LineReading
  pub are_releases : AreReleaseMarks js n.delegation releases
  pub so : IsSo js q n.line n.delegation.lasting releases n.state
  pub possible : SaysPossible n.state ↔ IsPossible q n.line n.delegation.lasting releases
  pub shown : IsShown js q n.line n.delegation.lasting releases → n.state ≡ Shown

-- the line tells of a delegation of an address of the prefix that may have been a client's near the moment
abbrev pub Concerns : Journals → Prefix → Asked → Ref → Type 0
Concerns js prefix q r = (d : Delegation) × (x : ℕ) × Tells js r d × Reads js r x × Overlaps d.prefix prefix
    × IsNear q (record { at = r; reading = x }) d.lasting

-- what is shown of the line; or it doesn't
abbrev pub IsNearAt : Journals → Prefix → Asked → Ref → Option CandidateLease → Type 0
IsNearAt js prefix q r None = Concerns js prefix q r → ⊥
IsNearAt js prefix q r (Some n) = IsNearLease js prefix q n × (n.line.at ≡ r)

-- what is shown of exactly the lines that do
pub record AreNearLeases (js : Journals) (prefix : Prefix) (q : Asked) (leases : List CandidateLease) : Type 0 where
  pub each : (n : CandidateLease) → Has leases n → IsNearLease js prefix q n
  pub all : (r : Ref) → Concerns js prefix q r → (n : CandidateLease) × Has leases n × (n.line.at ≡ r)

-- ---- for bodies

abbrev pub found_list : Option CandidateLease → List CandidateLease
found_list None = []
found_list (Some n) = n ∷ []
