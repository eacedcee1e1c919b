-- What is true, in every run of the pair that leaves two journals, of what is said of leases.
use Rattle.std.specs.Prelude.{◌≡◌, ℕ, List}
use Rattle.prefix_range.specs.Prefix.{Prefix, HasAddress}
use Rattle.journal_lines.specs.declared.event.Lease.{Lease}
use Rattle.book_rules.specs.NextHead.{AreLegal}
use Rattle.causal_order.specs.Journals.{Journals}
use Rattle.attribution.specs.Delegation.{of_lease}
use Rattle.attribution.specs.Run.{Step, StartInTime, IsValidAt, Holds}
use Rattle.attribution.specs.Laws.{Setting}
use Rattle.candidate_leases.specs.declared.at_moment.AtMoment.TheVariants.{Shown}
use Rattle.candidate_leases.specs.declared.candidates.CandidateLease.{CandidateLease}
use Rattle.candidate_leases.specs.declared.why.NoHolderReason.TheVariants.{Nobody}
use Rattle.candidate_leases.specs.Conditions.{Asked, asked_of}
use Rattle.candidate_leases.specs.Leases.{IsNearLease, AreNearLeases}
use Rattle.candidate_leases.specs.Why.{Case, IsWhy}

-- in every run that leaves these journals, with each clock within the skew of true time and each answer within the
-- transit
abbrev pub InEveryRun : Journals → Asked → (List Step → (ℕ → ℕ) → Type 0) → Type 0
InEveryRun js q IsSoIn = (run : List Step) → Setting AreLegal js q.skew run
    → (starts : ℕ → ℕ) → StartInTime q.transit run starts → IsSoIn run starts

-- at this moment a lease that a step grants is the client's, and it is the one that the line tells of
pub record IsValidLease (n : CandidateLease) (moment : ℕ) (run : List Step) (starts : ℕ → ℕ) : Type 0 where
  pub index : ℕ
  pub lease : Lease
  pub is : of_lease lease ≡ n.delegation
  pub valid : IsValidAt run starts index lease moment

-- no client's valid lease has an address of the prefix at this moment
abbrev pub NobodyHolds : Prefix → (moment : ℕ) → List Step → (ℕ → ℕ) → Type 0
NobodyHolds prefix moment run starts =
    (client : List ℕ) (address : ℕ) → HasAddress prefix address → Holds run starts address client moment → ⊥

-- what is said to have been its client's was a valid delegation
abbrev pub ShownIsValid : Type 0
ShownIsValid = (js : Journals) (prefix : Prefix) (q : Asked) (n : CandidateLease)
    → IsNearLease js prefix q n → n.state ≡ Shown → InEveryRun js q (IsValidLease n q.at)

-- where it is said that nobody had it, nobody had
abbrev pub NobodyIsTrue : Type 0
NobodyIsTrue = (c : Case) (leases : List CandidateLease)
    → AreNearLeases c.journals c.query.prefix (asked_of c.query) leases → IsWhy c leases Nobody
    → InEveryRun c.journals (asked_of c.query) (NobodyHolds c.query.prefix c.query.at)
