-- Why other clients' delegations stay out of the interval.
use Rattle.std.specs.Prelude.{◌≡◌, ℕ, ◌+◌, ◌≤◌, List, [], ◌∷◌, ◌++◌, Some, None, All, Contains as Has}
use Rattle.std.proofs.Common.{arith, sym, ◌∙◌, subst, refl}
use Rattle.causal_order.specs.declared.reference.Ref.{Ref}
use Rattle.causal_order.specs.declared.certificate.Foreign.{Foreign}
use Rattle.causal_order.specs.declared.certificate.Reason.TheVariants.{Early, Late, Released}
use Rattle.causal_order.specs.Journals.{Journals}
use Rattle.causal_order.specs.Bounds.{reading_of}
use Rattle.attribution.specs.declared.delegation.Delegation.{Delegation}
use Rattle.attribution.specs.Acceptance.{GivesBack, EndsBy, IsNew}
use Rattle.attribution.specs.Listing.{IsListing}
use Rattle.attribution.specs.Tests.{delegation_of}
use Rattle.attribution.proofs.Deciding.{told_tells}
use Rattle.attribution.proofs.Listing.{concerned}
use Rattle.auditor.proofs.Leases.{one_told}
use Rattle.plain_search.specs.declared.query.Query.{Query}
use Rattle.plain_search.specs.Search.{plain_order, IsAnothers, IsOthersAt, IsReturnedBy, IsAside, HasNoReason}
use Rattle.plain_search.specs.Search.{IsReasoned, IsNamedIn, AreForeign, IsInTheWay}
use Rattle.plain_search.proofs.Orders.{one_reading, by_alone, from_alone, by_one, from_one, before_shown, shown_before}
use Rattle.plain_search.proofs.Walked.{Passed, passed_none, passed_on, passed_all}
use Rattle.plain_search.proofs.Carrying.{all_more, has_more, has_last}

module _ (js : Journals) (q : Query) (r : Ref) (d : Delegation) where
  -- ---- reasons that hold

  pub early_holds : (x : ℕ) → Some x ≡ reading_of js r → EndsBy q.skew q.transit x q.from d.lasting
      → IsAside js q r d (Early (r ∷ []))
  early_holds x e ends = (x, by_alone js r x (sym e), ends)

  pub late_holds : (x : ℕ) → Some x ≡ reading_of js r → IsNew d.lasting × (q.to + q.skew ≤ x)
      → IsAside js q r d (Late (r ∷ []))
  late_holds x e h = (h.0, (x, from_alone js r x (sym e), h.1))

  pub released_holds : (j : Ref) → GivesBack js j d → IsReturnedBy js q r j
      → IsAside js q r d (Released j (plain_order r j) (j ∷ []))
  released_holds j back h = (back, before_shown js q.skew r j h.0, (h.1.0, by_alone js j h.1.0 h.1.1, h.1.2))

  -- ---- where none does

  pub no_line : None ≡ reading_of js r → HasNoReason js q r d
  no_line e (Early chain) plain h = let x : None ≡ Some h.0 = e ∙ by_one js chain r h.0 h.1 plain in absurd (cc)
  no_line e (Late chain) plain h = let x : None ≡ Some h.1.0 = e ∙ from_one js chain r h.1.0 h.1.1 plain in absurd (cc)
  no_line e (Released j order chain) plain h =
      let b = shown_before js q.skew order r j plain.0 h.1 in
      let x : None ≡ Some b.0 = e ∙ b.2 in absurd (cc)

  pub no_reason : (x : ℕ) → Some x ≡ reading_of js r → (EndsBy q.skew q.transit x q.from d.lasting → ⊥)
      → ((IsNew d.lasting × (q.to + q.skew ≤ x)) → ⊥)
      → ((j : Ref) → GivesBack js j d → IsReturnedBy js q r j → ⊥) → HasNoReason js q r d
  no_reason x e early late back (Early chain) plain h =
      let same = one_reading js r h.0 x (by_one js chain r h.0 h.1 plain) (sym e) in
      early (subst (λ (y : ℕ). EndsBy q.skew q.transit y q.from d.lasting) same h.2)
  no_reason x e early late back (Late chain) plain h =
      let same = one_reading js r h.1.0 x (from_one js chain r h.1.0 h.1.1 plain) (sym e) in
      late (h.0, (let le = h.1.2 in omega arith))
  no_reason x e early late back (Released j order chain) plain h =
      back j h.0 (shown_before js q.skew order r j plain.0 h.1, (h.2.0, by_one js chain j h.2.0 h.2.1 plain.1, h.2.2))

  -- ---- which lines need one

  pub others_told : Some d ≡ delegation_of js r → IsAnothers d q → IsOthersAt js q r d
  others_told e is = (told_tells js r d (sym e), is)

-- ---- entries

abbrev pub IsOthers : Journals → Query → Ref → Type 0
IsOthers js q r = (d : Delegation) × IsOthersAt js q r d

pub record AreNamed (js : Journals) (q : Query) (left : List Ref) (fs : List Foreign) : Type 0 where
  pub reasoned : All (IsReasoned js q) fs
  pub passed : Passed (IsOthers js q) (IsNamedIn fs) left

module _ (js : Journals) (q : Query) where
  pub not_anothers : (r : Ref) (d : Delegation) → Some d ≡ delegation_of js r → (IsAnothers d q → ⊥) → (f : Delegation)
      → IsOthersAt js q r f → ⊥
  not_anothers r d e not f h = not (subst (λ (x : Delegation). IsAnothers x q) (one_told js r d f e h.0) h.1)

  others_listed : (left : List Ref) → IsListing js q.prefix left → (r : Ref) → IsOthers js q r → Has left r
  others_listed left listed r h = listed.all r h.1.0.0 h.1.0.1 (concerned q.prefix h.1.0.0.event h.0 h.1.0.2 h.1.1.1)

  pub none_named : (left : List Ref) → IsListing js q.prefix left → AreNamed js q left []
  none_named left listed = record {
    reasoned = λ k d lt. absurd (omega arith);
    passed = passed_none (IsOthers js q) (IsNamedIn []) left (others_listed left listed);
  }

  pub not_named : (left more : List Ref) (r : Ref) (fs : List Foreign) → left ≡ r ∷ more
      → ((d : Delegation) → IsOthersAt js q r d → ⊥) → AreNamed js q left fs → AreNamed js q more fs
  not_named left more r fs e none h = record {
    reasoned = h.reasoned;
    passed = passed_on (IsOthers js q) (IsNamedIn fs) (IsNamedIn fs) left more r e (λ j n. n)
        (λ w. absurd (none w.0 w.1)) h.passed;
  }

  pub one_named : (left more : List Ref) (fs on : List Foreign) (f : Foreign) (d : Delegation) → left ≡ f.grant ∷ more
      → IsOthersAt js q f.grant d → IsAside js q f.grant d f.reason → on ≡ fs ++ f ∷ []
      → AreNamed js q left fs → AreNamed js q more on
  one_named left more fs on f d e other aside same h = subst (AreNamed js q more) (sym same) (record {
    reasoned = all_more (IsReasoned js q) fs f h.reasoned (d, other.0, aside);
    passed = passed_on (IsOthers js q) (IsNamedIn fs) (IsNamedIn (fs ++ f ∷ [])) left more f.grant e
        (λ j n. (n.0, has_more fs f n.0 n.1, n.2)) (λ w. (f, has_last fs f, refl)) h.passed;
  })

  pub all_named : (left : List Ref) (fs : List Foreign) → left ≡ [] → AreNamed js q left fs → AreForeign js q fs
  all_named left fs none h = record {
    reasoned = h.reasoned;
    named = λ r d other. passed_all (IsOthers js q) (IsNamedIn fs) left none h.passed r (d, other);
  }

  pub in_the_way : (r : Ref) (d : Delegation) → IsOthersAt js q r d → HasNoReason js q r d → IsInTheWay js q
  in_the_way r d other none = record { line = r; delegation = d; other = other; none = none }
