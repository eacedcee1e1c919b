-- Grants to other clients.
use Rattle.std.specs.Prelude.{◌≡◌, ℕ, ◌<◌, ◌↔◌, IsTrue, Bool, false, List, [], length, Option, Some, None, MatchOption}
use Rattle.std.specs.Prelude.{Contains as Has}
use Rattle.std.proofs.Common.{sym, subst, inl, inr, arith, get_or}
use Rattle.std.proofs.lemmas.List.Elements.{Contains-get_or}
use Rattle.std.proofs.lemmas.Bool.{cases_Bool}
use Rattle.prefix_range.specs.Prefix.{Overlaps}
use Rattle.attribution.specs.declared.delegation.Delegation.{Delegation}
use Rattle.causal_order.specs.declared.reference.Ref.{Ref}
use Rattle.causal_order.specs.Journals.{Journals}
use Rattle.causal_order.specs.declared.certificate.Certificate.{Certificate}
use Rattle.causal_order.specs.Naming.{NamesAt}
use Rattle.attribution.specs.Acceptance.{IsNamed, IsCovered}
use Rattle.causal_order.specs.LineOrder.{IsLeast}
use Rattle.attribution.specs.FirstRefusal.{IsUncovered}
use Rattle.attribution.specs.Listing.{IsListing}
use Rattle.attribution.specs.Tests.{delegation_of, is_named}
use Rattle.attribution.proofs.Deciding.{told_tells, decides_named}
use Rattle.attribution.proofs.Listing.{uncovered_listed}
use Rattle.auditor.specs.Refusals.{IsOthers}
use Rattle.auditor.proofs.Given.{Contains-get, get-Contains}
use Rattle.auditor.proofs.Least.{IsWalked, nowhere, least_found}
use Rattle.auditor.proofs.Leases.{one_told, none_told}

-- ---- one line

pub others_by : (g : Delegation) (c : Certificate) (b : Bool) → (g.client ≡ c.holder → ⊥) → IsTrue b
    ↔ Overlaps g.prefix c.prefix → IsTrue b ↔ IsOthers g c
others_by g c b n d = (λ t. (n, d.0 t), λ h. d.1 h.1)

pub holders_own : (g : Delegation) (c : Certificate) → g.client ≡ c.holder → IsTrue false ↔ IsOthers g c
holders_own g c e = (λ t. absurd (cc), λ h. absurd (h.0 e))

module _ (js : Journals) (c : Certificate) (r : Ref) where
  pub bare : (g : Delegation) → Some g ≡ delegation_of js r → IsOthers g c → (IsNamed c r → ⊥) → IsUncovered js c r
  bare g e o n = (g, (told_tells js r g (sym e), o.0, o.1), n)

  pub bare_others : (g : Delegation) → Some g ≡ delegation_of js r → IsUncovered js c r → IsOthers g c
  bare_others g e u = subst (λ (x : Delegation). IsOthers x c) (one_told js r g u.0 e u.1.0) (u.1.1, u.1.2)

  pub bare_by_names : (g : Delegation) (b : Bool) → Some g ≡ delegation_of js r → IsOthers g c → IsTrue b ↔ IsNamed c r
      → (b ≡ false → IsUncovered js c r) × (IsUncovered js c r → b ≡ false)
  bare_by_names g b e o d = (
    λ f. bare g e o (λ named. let t = d.1 named in absurd (cc)),
    λ u. elim (cases_Bool b) [ inl t ↦ absurd (u.2 (d.0 t)) | inr f ↦ f ],
  )

  pub no_bare : None ≡ delegation_of js r → IsUncovered js c r → ⊥
  no_bare e u = none_told js r u.0 e u.1.0

-- ---- foreign entries that name a line

module _ (c : Certificate) (r : Ref) (indexes : List ℕ) (naming : (k : ℕ) → Has indexes k
    ↔ NamesAt (λ f. f.grant) c.foreign r k) where
  pub named_by_some : 0 < length indexes → IsNamed c r
  named_by_some some =
      let n = (naming (get_or indexes 0 0)).0 (Contains-get_or indexes 0 0 some) in
      (n.0, Contains-get c.foreign (get_or indexes 0 0) n.0 n.1, n.2)

  pub some_by_name : IsNamed c r → 0 < length indexes
  some_by_name h =
      let at = get-Contains c.foreign h.0 h.1 in
      let has = (naming at.0).1 (h.0, at.2, h.2) in
      omega (arith, has.1)

-- ---- the least of the given lines

module _ (js : Journals) (c : Certificate) (given : List Ref) (listed : IsListing js c.prefix given) where
  all_covered : ((r : Ref) → IsUncovered js c r → ⊥) → IsCovered js c
  all_covered none r g foreign = elim (cases_Bool (is_named c r)) [
    | inl t ↦ (decides_named c r).0 t
    | inr f ↦ absurd (none r (g, foreign, λ named. let t = (decides_named c r).1 named in absurd (cc)))
  ]

  pub uncovered_found : (left : List Ref) → left ≡ [] → (o : Option Ref) → IsWalked (IsUncovered js c) given left o
      → MatchOption o (IsCovered js c) (IsLeast (IsUncovered js c))
  uncovered_found left none None w = all_covered
      (nowhere (IsUncovered js c) given (uncovered_listed js c given listed) left none w)
  uncovered_found left none (Some m) w = least_found (IsUncovered js c) given
      (uncovered_listed js c given listed) left none m w
