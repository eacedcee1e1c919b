-- The clear entries of a grant.
use Rattle.std.specs.Prelude.{◌≡◌, ℕ, List, [], ◌∷◌, ◌++◌, Some, None}
use Rattle.std.proofs.Common.{sym, subst, refl}
use Rattle.journal_lines.specs.declared.event.Lease.{Lease}
use Rattle.causal_order.specs.declared.reference.Ref.{Ref}
use Rattle.causal_order.specs.declared.certificate.Clear.{Clear}
use Rattle.causal_order.specs.Journals.{Journals}
use Rattle.attribution.specs.declared.delegation.Delegation.{Delegation}
use Rattle.attribution.specs.Delegation.{of_lease}
use Rattle.attribution.specs.Acceptance.{GivesBack}
use Rattle.attribution.specs.Tests.{lease_of}
use Rattle.auditor.specs.Walks.{AreReleases}
use Rattle.auditor.proofs.Leases.{none_granted, one_granted}
use Rattle.plain_search.specs.Search.{IsPlainEntry, HasEntry, AreEntries}
use Rattle.plain_search.proofs.Walked.{Passed, passed_none, passed_on, passed_all}
use Rattle.plain_search.proofs.Carrying.{has_more, has_last}

-- each release that was passed has its entry
pub record AreCleared (js : Journals) (skew : ℕ) (grant : Ref) (d : Delegation) (left : List Ref)
    (clear : List Clear) : Type 0 where
  pub passed : Passed (λ r. GivesBack js r d) (HasEntry js skew grant clear) left

module _ (js : Journals) (skew : ℕ) (grant : Ref) (d : Delegation) where
  pub none_cleared : (left : List Ref) → AreReleases js d left → AreCleared js skew grant d left []
  none_cleared left rs = record { passed = passed_none (λ r. GivesBack js r d) (HasEntry js skew grant []) left rs.all }

  pub one_cleared : (left more : List Ref) (clear on : List Clear) (k : Clear) → left ≡ k.release ∷ more
      → IsPlainEntry js skew k.release grant k.why → on ≡ clear ++ k ∷ []
      → AreCleared js skew grant d left clear → AreCleared js skew grant d more on
  one_cleared left more clear on k e is same h =
      let r = k.release in
      subst (AreCleared js skew grant d more) (sym same) (record {
        passed = passed_on (λ r. GivesBack js r d) (HasEntry js skew grant clear)
            (HasEntry js skew grant (clear ++ k ∷ [])) left more r e
            (λ j has. (has.0, has_more clear k has.0 has.1, has.2, has.3))
            (λ back. (k, has_last clear k, refl, is)) h.passed;
      })

  pub all_cleared : (left : List Ref) (clear : List Clear) → left ≡ [] → AreCleared js skew grant d left clear
      → (j : Ref) → GivesBack js j d → HasEntry js skew grant clear j
  all_cleared left clear none h = passed_all (λ r. GivesBack js r d) (HasEntry js skew grant clear) left none h.passed

module _ (js : Journals) (skew : ℕ) (grant : Ref) where
  pub entries_of : (g : Lease) (d : Delegation) (clear : List Clear) → Some g ≡ lease_of js grant → d ≡ of_lease g
      → ((j : Ref) → GivesBack js j d → HasEntry js skew grant clear j) → AreEntries js skew grant clear
  entries_of g d clear e is all h j grants back =
      all j (subst (λ (x : Delegation). GivesBack js j x) (sym is)
      (subst (λ (x : Lease). GivesBack js j (of_lease x)) (one_granted js grant g h e grants) back))

  pub no_entries : (clear : List Clear) → None ≡ lease_of js grant → AreEntries js skew grant clear
  no_entries clear e g j grants back = absurd (none_granted js grant g e grants)
