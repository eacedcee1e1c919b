-- The releases of a delegation, as they are collected.
use Rattle.std.specs.Prelude.{◌≡◌, ℕ, ◌+◌, ◌-◌, ◌<◌, ◌≤◌, List, [], ◌∷◌, ◌++◌, length, slice_get, Some, None, All}
use Rattle.std.proofs.Common.{arith, sym, ◌∙◌, ap, subst, refl, inl, inr, get_or}
use Rattle.std.proofs.lemmas.Bool.{cases_lt}
use Rattle.std.proofs.lemmas.List.Elements.{All-get_or}
use Rattle.std.proofs.lemmas.Option.{slice_get_within, get_or_from_slice_get, slice_get_read}
use Rattle.binding_rules.specs.declared.role.Role.{Role}
use Rattle.causal_order.specs.declared.reference.Ref.{Ref}
use Rattle.causal_order.specs.Journals.{Journals}
use Rattle.causal_order.specs.Bounds.{reading_of}
use Rattle.attribution.specs.declared.delegation.Delegation.{Delegation}
use Rattle.attribution.specs.Acceptance.{GivesBack}
use Rattle.auditor.specs.Walks.{AreReleases as AreWalked}
use Rattle.plain_search.specs.declared.collected.DatedRelease.{DatedRelease}
use Rattle.plain_search.specs.declared.collected.Releases.{Releases}
use Rattle.plain_search.specs.declared.recent.ReleaseCache.{ReleaseCache}
use Rattle.plain_search.specs.Collected.{IsRelease, HasRelease, AreReleasesOn, IsFollowedBy, AreRising, AreReleases}
use Rattle.plain_search.specs.Collected.{AreGivenBackAlike, IsRecent, IsPlaceOf}
use Rattle.plain_search.proofs.Orders.{line_read}
use Rattle.plain_search.proofs.Walked.{Passed, AreOnly, passed_none, passed_on, passed_all, only_all, only_next}
use Rattle.plain_search.proofs.Walked.{only_on}
use Rattle.plain_search.proofs.Carrying.{all_more, has_more, has_last}

-- ---- a server's

abbrev IsFoundOn : Role → List DatedRelease → Ref → Type 0
IsFoundOn side xs j = j.side ≡ side → HasRelease xs j

-- of the releases that were passed each of this side is found
pub record AreFound (js : Journals) (d : Delegation) (side : Role) (left : List Ref) (xs : List DatedRelease) : Type 0 where
  pub each : All (IsRelease js d) xs
  pub passed : Passed (λ r. GivesBack js r d) (λ r. r.side ≡ side → HasRelease xs r) left
  pub only : AreOnly (λ r. GivesBack js r d) left

module _ (js : Journals) (d : Delegation) (side : Role) where
  pub none_found : (left : List Ref) (xs : List DatedRelease) → AreWalked js d left → xs ≡ [] → AreFound js d side left xs
  none_found left xs rs none = subst (AreFound js d side left) (sym none) (record {
    each = λ k r lt. absurd (omega arith);
    passed = passed_none (λ r. GivesBack js r d) (IsFoundOn side []) left rs.all;
    only = only_all (λ r. GivesBack js r d) left rs.only;
  })

  -- a release of the other side, or one that isn't there
  pub not_found : (left more : List Ref) (r : Ref) (xs : List DatedRelease) → left ≡ r ∷ more
      → (GivesBack js r d → r.side ≡ side → ⊥) → AreFound js d side left xs → AreFound js d side more xs
  not_found left more r xs e other h = record {
    each = h.each;
    passed = passed_on (λ r. GivesBack js r d) (IsFoundOn side xs) (IsFoundOn side xs) left more r e (λ j f. f)
        (λ back on. absurd (other back on)) h.passed;
    only = only_on (λ r. GivesBack js r d) left more r e h.only;
  }

  pub one_found : (left more : List Ref) (xs ys : List DatedRelease) (x : DatedRelease) → left ≡ x.at ∷ more
      → Some x.reading ≡ reading_of js x.at → ys ≡ xs ++ x ∷ [] → AreFound js d side left xs
      → AreFound js d side more ys
  one_found left more xs ys x e read same h = subst (AreFound js d side more) (sym same) (record {
    each = all_more (IsRelease js d) xs x h.each (record {
      back =
          only_next (λ r. GivesBack js r d) left more x.at e h.only;
      read = sym read;
    });
    passed = passed_on (λ r. GivesBack js r d) (IsFoundOn side xs) (IsFoundOn side (xs ++ x ∷ [])) left more x.at e
        (λ j f on. (let has = f on in (has.0, has_more xs x has.0 has.1, has.2)))
        (λ back on. (x, has_last xs x, refl)) h.passed;
    only = only_on (λ r. GivesBack js r d) left more x.at e h.only;
  })

  pub all_found : (left : List Ref) (xs : List DatedRelease) → left ≡ [] → AreFound js d side left xs
      → AreReleasesOn js d side xs
  all_found left xs none h = record {
    each = h.each;
    all =
        passed_all (λ r. GivesBack js r d) (IsFoundOn side xs) left none h.passed;
  }

  pub unread : (r : Ref) → None ≡ reading_of js r → GivesBack js r d → ⊥
  unread r e back = let x : None ≡ Some back.0.reading = e ∙ line_read js r back.0 back.1 in cc

-- ---- lines that rise

-- the first so many rise
pub record RiseTo (xs : List DatedRelease) (n : ℕ) : Type 0 where
  pub rise : (i k : ℕ) (d : DatedRelease) → i ≤ k → k < n → IsFollowedBy (get_or xs i d) (get_or xs k d)

at_itself : (x : DatedRelease) → IsFollowedBy x x
at_itself x = (refl, omega arith, omega arith)

far : (x y z : DatedRelease) → IsFollowedBy x y → IsFollowedBy y z → IsFollowedBy x z
far x y z h g = (h.0 ∙ g.0, (let a = h.1 in let b = g.1 in omega arith), (let a = h.2 in let b = g.2 in omega arith))

module _ (xs : List DatedRelease) where
  same_place : (i k : ℕ) (d : DatedRelease) → i ≡ k → IsFollowedBy (get_or xs i d) (get_or xs k d)
  same_place i k d e = subst (λ (n : ℕ). IsFollowedBy (get_or xs i d) (get_or xs n d)) e (at_itself (get_or xs i d))

  pub one_rises : RiseTo xs 1
  one_rises = record { rise = λ i k d le lt. same_place i k d (omega arith) }

  next_by : (n i : ℕ) (d : DatedRelease) → 0 < n → n < length xs → RiseTo xs n
      → IsFollowedBy (get_or xs (n - 1) d) (get_or xs n d) → i ≤ n → IsFollowedBy (get_or xs i d) (get_or xs n d)
  next_by n i d some lt h next le = elim (cases_lt i n) [
    | inl less ↦ far (get_or xs i d) (get_or xs (n - 1) d) (get_or xs n d)
        (h.rise i (n - 1) d (omega arith) (omega arith)) next
    | inr ge ↦ same_place i n d (omega arith)
  ]

  pub more_rise : (n : ℕ) (x y : DatedRelease) → 0 < n → n < length xs → x ≡ get_or xs (n - 1) x → y ≡ get_or xs n y
      → IsFollowedBy x y → RiseTo xs n → RiseTo xs (n + 1)
  more_rise n x y some lt at on next h = record {
    rise = λ i k d le less. elim (cases_lt k n) [
      | inl below ↦ h.rise i k d le below
      | inr ge ↦ (
          let a : get_or xs (n - 1) d ≡ x = get_or_from_slice_get xs (n - 1) x d
          (slice_get_read xs (length xs) (n - 1) x refl (omega arith) at) in
          let b : get_or xs n d ≡ y = get_or_from_slice_get xs n y d (slice_get_read xs (length xs) n y refl lt on) in
          let step : IsFollowedBy (get_or xs (n - 1) d) (get_or xs n d) =
          subst (λ (u : DatedRelease). IsFollowedBy u (get_or xs n d)) (sym a) (subst (IsFollowedBy x) (sym b) next) in
          let here : k ≡ n = omega arith in
          subst (λ (m : ℕ). IsFollowedBy (get_or xs i d) (get_or xs m d)) (sym here)
          (next_by n i d some lt h step (omega arith)))
    ];
  }

  pub all_rise : (n : ℕ) → length xs ≤ n → RiseTo xs n → AreRising xs
  all_rise n le h i k d ge lt = h.rise i k d ge (omega arith)

-- ---- what was collected

module _ (js : Journals) where
  pub none_recent : (r : ReleaseCache) → r.collected.items ≡ [] → IsRecent js r
  none_recent r e = subst (All (AreReleases js)) (sym e) (λ k c lt. absurd (omega arith))

  pub more_recent : (xs ys : List Releases) (c : Releases) → ys ≡ xs ++ c ∷ [] → All (AreReleases js) xs
      → AreReleases js c → All (AreReleases js) ys
  more_recent xs ys c same h is = subst (All (AreReleases js)) (sym same) (all_more (AreReleases js) xs c h is)

  pub recent_at : (xs : List Releases) (i : ℕ) (c : Releases) → slice_get xs i ≡ Some c → All (AreReleases js) xs
      → AreReleases js c
  recent_at xs i c e h = subst (AreReleases js) (get_or_from_slice_get xs i c c e)
      (All-get_or (AreReleases js) xs i c (slice_get_within xs i c e) h)

last_got : {X : Type 0} (xs : List X) (x : X) → slice_get (xs ++ x ∷ []) (length xs) ≡ Some x
last_got [] x = refl
last_got (y ∷ xs) x = last_got xs x

pub last_place : (r : ReleaseCache) (d : Delegation) (xs : List Releases) (c : Releases) (i : ℕ)
    → r.collected.items ≡ xs ++ c ∷ [] → i ≡ length xs → c.delegation ≡ d → IsPlaceOf r d i
last_place r d xs c i same at e = (
  c,
  ap (slice_get r.collected.items) at ∙ (ap (λ (ys : List Releases). slice_get ys (length xs)) same ∙ last_got xs c),
  record {
    client = ap (λ (x : Delegation). x.client) e;
    iaid = ap (λ (x : Delegation). x.iaid) e;
    prefix =
        ap (λ (x : Delegation). x.prefix) e;
  },
)

pub place_at : (r : ReleaseCache) (d : Delegation) (i : ℕ) (c : Releases) → i < length r.collected.items
    → c ≡ get_or r.collected.items i c → AreGivenBackAlike c.delegation d → IsPlaceOf r d i
place_at r d i c lt is alike = (c, slice_get_read r.collected.items (length r.collected.items) i c refl lt is, alike)

pub placed : (js : Journals) (r : ReleaseCache) (d : Delegation) (i : ℕ) (c : Releases) → IsRecent js r → IsPlaceOf r d i
    → c ≡ get_or r.collected.items i c → AreReleases js c × AreGivenBackAlike c.delegation d
placed js r d i c h at is =
    let same : at.0 ≡ c = sym (get_or_from_slice_get r.collected.items i at.0 c at.1) ∙ sym is in
    subst (λ (x : Releases). AreReleases js x × AreGivenBackAlike x.delegation d) same
    (recent_at js r.collected.items i at.0 at.1 h, at.2)
