-- The grants that carry moments.
use Rattle.std.specs.Prelude.{◌≡◌, ℕ, ◌+◌, ◌<◌, ◌≤◌, ◌⊎◌, List, [], ◌∷◌, ◌++◌, length, slice_get, Option, Some, None}
use Rattle.std.specs.Prelude.{MatchOption, All, Contains as Has}
use Rattle.std.proofs.Common.{arith, sym, subst, refl}
use Rattle.std.proofs.lemmas.List.Elements.{All-append, Contains-append_left, Contains-append_right}
use Rattle.prefix_range.specs.Prefix.{Prefix, IsPrefix, HasAddress, Overlaps}
use Rattle.causal_order.specs.declared.reference.Ref.{Ref}
use Rattle.journal_lines.specs.declared.event.Event.{Event}
use Rattle.causal_order.specs.Journals.{Journals}
use Rattle.attribution.specs.Listing.{Concerns, IsListing}
use Rattle.plain_search.specs.declared.query.Query.{Query}
use Rattle.plain_search.specs.declared.reach.CarriedSpan.{CarriedSpan}
use Rattle.plain_search.specs.Search.{CarriesAt, IsReach, HasReach, AreAllReaches}
use Rattle.plain_search.proofs.Walked.{Passed, passed_none, passed_on, passed_all}

-- ---- lists

pub one_only : {X : Type 0} (P : X → Type 0) (x : X) → P x → All P (x ∷ [])
one_only P x h k d lt = let first : k ≡ 0 = omega arith in
    subst (λ (i : ℕ). P (Rattle.std.specs.Prelude.slice_index_or (x ∷ []) i d)) (sym first) h

pub all_more : {X : Type 0} (P : X → Type 0) (xs : List X) (x : X) → All P xs → P x → All P (xs ++ x ∷ [])
all_more P xs x h p = All-append P xs (x ∷ []) h (one_only P x p)

pub has_more : {X : Type 0} (xs : List X) (x y : X) → Has xs y → Has (xs ++ x ∷ []) y
has_more xs x y h = Contains-append_left xs (x ∷ []) y h

pub has_last : {X : Type 0} (xs : List X) (x : X) → Has (xs ++ x ∷ []) x
has_last xs x = Contains-append_right xs (x ∷ []) x (0, omega arith, refl)

-- ---- what a walk finds

abbrev pub Carries : Journals → Query → Ref → Type 0
Carries js q r = (m : ℕ) × (q.from ≤ m) × CarriesAt js q m r

pub record AreReached (js : Journals) (q : Query) (left : List Ref) (xs : List CarriedSpan) : Type 0 where
  pub each : All (IsReach js q) xs
  pub passed : Passed (Carries js q) (HasReach xs) left

has_address : (p : Prefix) → IsPrefix p → (a : ℕ) × HasAddress p a
has_address p h = (p.address, (h.address, refl))

module _ (js : Journals) (q : Query) where
  pub carried_listed : (left : List Ref) → IsListing js q.prefix left → IsPrefix q.prefix → (r : Ref) → Carries js q r
      → Has left r
  carried_listed left listed prefix r h =
      let c = h.2.0 in
      let of = h.2.2 in
      let a = has_address q.prefix prefix in
      let over : Overlaps c.lease.prefix q.prefix = (a.0, of.holders.1 a.0 a.1, a.1) in
      let has = listed.all c.grant of.grants.0 of.grants.1
      (subst (λ (e : Event). Concerns q.prefix e) (sym of.grants.2) over) in
      subst (λ (s : Ref). Has left s) h.2.1 has

  pub none_reached : (left : List Ref) (xs : List CarriedSpan) → IsListing js q.prefix left → IsPrefix q.prefix → xs ≡ []
      → AreReached js q left xs
  none_reached left xs listed prefix none = subst (AreReached js q left) (sym none) (record {
    each = λ k d lt. absurd (omega arith);
    passed = passed_none (Carries js q) (HasReach []) left (carried_listed left listed prefix);
  })

  pub not_reached : (left more : List Ref) (r : Ref) (xs : List CarriedSpan) → left ≡ r ∷ more
      → ((m : ℕ) → q.from ≤ m → CarriesAt js q m r → ⊥) → AreReached js q left xs → AreReached js q more xs
  not_reached left more r xs e none h = record {
    each = h.each;
    passed = passed_on (Carries js q) (HasReach xs) (HasReach xs) left more r e (λ j d. d)
        (λ w. absurd (none w.0 w.1 w.2)) h.passed;
  }

  pub one_reached : (left more : List Ref) (r : Ref) (xs ys : List CarriedSpan) (x : CarriedSpan) → left ≡ r ∷ more → x.grant ≡ r
      → IsReach js q x → ys ≡ xs ++ x ∷ [] → AreReached js q left xs → AreReached js q more ys
  one_reached left more r xs ys x e is of on h = subst (AreReached js q more) (sym on) (record {
    each = all_more (IsReach js q) xs x h.each of;
    passed = passed_on (Carries js q) (HasReach xs) (HasReach (xs ++ x ∷ [])) left more r e
        (λ j d. (d.0, has_more xs x d.0 d.1, d.2)) (λ w. (x, has_last xs x, is)) h.passed;
  })

  pub all_reached : (left : List Ref) (xs : List CarriedSpan) → left ≡ [] → AreReached js q left xs → AreAllReaches js q xs
  all_reached left xs none h m r ge at = passed_all (Carries js q) (HasReach xs) left none h.passed r (m, ge, at)
