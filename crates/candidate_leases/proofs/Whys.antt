-- What leases near a moment come to.
use Rattle.std.specs.Prelude.{◌≡◌, ◌≢◌, ℕ, List, Contains as Has}
use Rattle.std.proofs.Common.{sym, ◌∙◌, subst, refl, rules}
use Rattle.binding_rules.specs.declared.role.Role.{Role}
use Rattle.binding_rules.specs.declared.role.Role.TheVariants.{Primary, Secondary}
use Rattle.candidate_leases.specs.declared.volume_ends.VolumeEnd.{VolumeEnd}
use Rattle.candidate_leases.specs.declared.volume_ends.VolumeEnd.TheVariants.{Open, Closed}
use Rattle.candidate_leases.specs.declared.at_moment.AtMoment.{AtMoment}
use Rattle.candidate_leases.specs.declared.at_moment.AtMoment.TheVariants.{Carried as CarriedLease}
use Rattle.candidate_leases.specs.declared.candidates.CandidateLease.{CandidateLease}
use Rattle.candidate_leases.specs.declared.why.NoHolderReason.TheVariants.{Several, Carried, NotShown, Nobody}
use Rattle.candidate_leases.specs.Conditions.{asked_of, end_of, IsBeforeFirst, IsBeforeClose}
use Rattle.candidate_leases.specs.Near.{SaysPossible}
use Rattle.candidate_leases.specs.Why.{Case, IsWhy, MayBe, IsInPools, IsInVolumes, IsWritten, IsCovered}
use Rattle.candidate_leases.specs.Why.{IsOneUnit, HasOneClient}

-- the moment isn't before the first volume of the one side, or of the other
pub not_before_primarys : (c : Case) → IsInPools c
    → ((opened : ℕ) → IsBeforeFirst c.journals (asked_of c.query) Primary opened → ⊥) → IsInVolumes c
not_before_primarys c pools not = record {
  pools = pools;
  first = λ both. (let h = both Primary in not h.0 h.1);
}

pub not_before_secondarys : (c : Case) → IsInPools c
    → ((opened : ℕ) → IsBeforeFirst c.journals (asked_of c.query) Secondary opened → ⊥) → IsInVolumes c
not_before_secondarys c pools not = record {
  pools = pools;
  first = λ both. (let h = both Secondary in not h.0 h.1);
}

-- both journals show the moment, where neither an open volume nor a closed one is too short
pub covered : (c : Case) → IsWritten c
    → ((side : Role) → end_of c.ends side ≡ Closed → IsBeforeClose c.journals (asked_of c.query) side) → IsCovered c
covered c written closes = record { written = written; closes = λ side. by_end side (end_of c.ends side) refl } where
  by_end : (side : Role) (end : VolumeEnd) → end_of c.ends side ≡ end → IsBeforeClose c.journals (asked_of c.query) side
  by_end side Open is = written.written side is
  by_end side Closed is = closes side is

-- a carried lease may have been its client's
carried_may : (leases : List CandidateLease) (n : CandidateLease) → Has leases n → n.state ≡ CarriedLease
    → MayBe leases n
carried_may leases n has is = (has, subst (λ (s : AtMoment). SaysPossible s) (sym is) (search rules))

module _ (leases : List CandidateLease) (c : Case) (unit : IsOneUnit c) where
  pub none_so : ((n : CandidateLease) → MayBe leases n → ⊥) → IsWhy c leases Nobody
  none_so none = (
    record {
      client = record { unit = unit; one = λ n m a b. absurd (none n a) };
      none = λ line h. none h.0 (carried_may leases h.0 h.1 h.2);
    },
    none,
  )

  module _ (first : CandidateLease) (may : MayBe leases first) where
    pub several_so : (n : CandidateLease) → MayBe leases n × (n.delegation.client ≢ first.delegation.client)
        → IsWhy c leases (Several first.line n.line)
    several_so n h = (unit, (first, n, may, h.0, (λ e. h.1 (sym e)), refl, refl))

    one_client : ((n : CandidateLease) → MayBe leases n → n.delegation.client ≡ first.delegation.client)
        → HasOneClient c leases
    one_client same = record { unit = unit; one = λ n m a b. same n a ∙ sym (same m b) }

    pub carried_so : ((n : CandidateLease) → MayBe leases n → n.delegation.client ≡ first.delegation.client)
        → (n : CandidateLease) → Has leases n × (n.state ≡ CarriedLease) → IsWhy c leases (Carried n.line)
    carried_so same n h = (one_client same, (n, h.0, h.1, refl))

    pub one_so : ((n : CandidateLease) → MayBe leases n → n.delegation.client ≡ first.delegation.client)
        → ((n : CandidateLease) → Has leases n → n.state ≡ CarriedLease → ⊥) → IsWhy c leases NotShown
    one_so same none = (
      record { client = one_client same; none = λ line h. none h.0 h.1 h.2 },
      (first, may),
    )
