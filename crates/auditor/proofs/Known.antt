-- What other clients had of a prefix, found once.
use Rattle.std.specs.Prelude.{◌≡◌, ℕ, ◌+◌, ◌<◌, ◌≤◌, Bool, true, false, not, ◌&&◌, ◌↔◌, IsTrue, cond, length}
use Rattle.std.specs.Prelude.{List, [], ◌∷◌, ◌++◌}
use Rattle.std.specs.Prelude.{drop, filter, slice_get, Option, Some, None, MatchOption, Contains as Has}
use Rattle.std.specs.Bool.{Decides}
use Rattle.std.specs.Str.{bytes_eq}
use Rattle.std.proofs.Common.{zero, suc, sym, ◌∙◌, ap, subst, refl, arith, get_or, inl, inr, append_assoc, length-append}
use Rattle.std.proofs.Common.{add-one, drop-cons}
use Rattle.std.proofs.lemmas.List.{append-nil}
use Rattle.std.proofs.lemmas.Bool.{cases_Bool}
use Rattle.std.proofs.lemmas.Bool.Decides.{Decides-and, Decides-not, same_from_decides}
use Rattle.std.proofs.lemmas.Slice.Eq.{bytes_eq-Decides}
use Rattle.prefix_range.specs.Prefix.{Prefix, Overlaps}
use Rattle.causal_order.specs.declared.reference.Ref.{Ref}
use Rattle.causal_order.specs.declared.certificate.Certificate.{Certificate}
use Rattle.causal_order.specs.Journals.{Journals}
use Rattle.causal_order.specs.LineOrder.{IsLeast}
use Rattle.attribution.specs.declared.delegation.Delegation.{Delegation}
use Rattle.attribution.specs.Acceptance.{IsNamed, IsCovered}
use Rattle.attribution.specs.FirstRefusal.{IsUncovered}
use Rattle.attribution.specs.Listing.{IsListing}
use Rattle.attribution.specs.Tests.{delegation_of, overlaps, is_named}
use Rattle.attribution.proofs.Deciding.{decides_overlaps, decides_named}
use Rattle.attribution.proofs.Listing.{uncovered_listed}
use Rattle.auditor.specs.Known.{is_others, tells_others, others_in, AreOthers, IsFewOthers}
use Rattle.auditor.specs.Refusals.{ComesFirst}
use Rattle.auditor.proofs.Given.{overlap_tested, Contains-get, get-Contains}
use Rattle.auditor.proofs.Others.{no_bare, bare_others}
use Rattle.auditor.proofs.Least.{IsWalked, one_kept, one_more, nowhere, least_found}

-- ---- one line

pub others_tested : (d : Delegation) (holder : List ℕ) (p : Prefix) (b : Bool)
    → not (bytes_eq d.client holder) ≡ true → IsTrue b ↔ Overlaps d.prefix p → b ≡ is_others holder p (Some d)
others_tested d holder p b other h =
    overlap_tested p d.prefix b h ∙ sym (ap (λ (x : Bool). x && overlaps d.prefix p) other)

decides_others : (holder : List ℕ) (p : Prefix) (d : Delegation) → Decides (is_others holder p (Some d))
    ((d.client ≡ holder → ⊥) × Overlaps d.prefix p)
decides_others holder p d =
    Decides-and _ _ (Decides-not _ (bytes_eq-Decides d.client holder)) (decides_overlaps d.prefix p)

told_by : (js : Journals) (c : Certificate) (r : Ref) (o : Option Delegation) → o ≡ delegation_of js r
    → IsUncovered js c r → is_others c.holder c.prefix o ≡ true
told_by js c r None e u = absurd (no_bare js c r e u)
told_by js c r (Some d) e u = (decides_others c.holder c.prefix d).1 (bare_others js c r d e u)

-- ---- the lines found

module _ {X : Type 0} (t : X → Bool) (x : X) (passes : t x ≡ true) where
  behind : (y : X) (ys : List X) → Has ys x → Has (y ∷ ys) x
  behind y ys h = let at = get-Contains ys x h in Contains-get (y ∷ ys) (suc at.0) x at.2

  kept_by : (b : Bool) (y : X) (ys : List X) → Has (filter t ys) x → Has (cond b (y ∷ filter t ys) (filter t ys)) x
  kept_by true y ys h = behind y (filter t ys) h
  kept_by false y ys h = h

  kept_at : (xs : List X) (i : ℕ) → slice_get xs i ≡ Some x → Has (filter t xs) x
  kept_at [] i e = absurd (cc)
  kept_at (y ∷ ys) zero e =
      let same : y ≡ x = cc in
      let step : filter t (y ∷ ys) ≡ y ∷ filter t ys =
      ap (λ (b : Bool). cond b (y ∷ filter t ys) (filter t ys)) (ap t same ∙ passes) in
      subst (λ (zs : List X). Has zs x) (sym step) (Contains-get (y ∷ filter t ys) 0 x (ap (λ (z : X). Some z) same))
  kept_at (y ∷ ys) (suc i) e = kept_by (t y) y ys (kept_at ys i e)

  Has-filter : (xs : List X) → Has xs x → Has (filter t xs) x
  Has-filter xs h = let at = get-Contains xs x h in kept_at xs at.0 at.2

module _ (js : Journals) (holder : List ℕ) (p : Prefix) where
  -- what has been found of the lines given, where these are left
  pub record HasFound (given left found : List Ref) : Type 0 where
    pub all : found ++ others_in js holder p left ≡ others_in js holder p given

  pub none_found : (given : List Ref) → HasFound given given []
  none_found given = record { all = refl }

  filter_step : (r : Ref) (more : List Ref) (b : Bool) → tells_others js holder p r ≡ b
      → others_in js holder p (r ∷ more) ≡ cond b (r ∷ others_in js holder p more) (others_in js holder p more)
  filter_step r more b e = ap (λ (x : Bool). cond x (r ∷ others_in js holder p more) (others_in js holder p more)) e

  pub one_found : (given left more found : List Ref) (r : Ref) → left ≡ r ∷ more → tells_others js holder p r ≡ true
      → HasFound given left found → HasFound given more (found ++ r ∷ [])
  one_found given left more found r e t h = record {
    all = append_assoc found (r ∷ []) (others_in js holder p more)
        ∙ (ap (λ (xs : List Ref). found ++ xs) (sym (ap (others_in js holder p) e ∙ filter_step r more true t)) ∙ h.all);
  }

  pub one_passed : (given left more found : List Ref) (r : Ref) → left ≡ r ∷ more → tells_others js holder p r ≡ false
      → HasFound given left found → HasFound given more found
  one_passed given left more found r e t h = record {
    all = ap (λ (xs : List Ref). found ++ xs) (sym (ap (others_in js holder p) e ∙ filter_step r more false t)) ∙ h.all;
  }

  module _ (given : List Ref) (exact : IsListing js p given) where
    pub found_all : (left found : List Ref) → left ≡ [] → HasFound given left found → AreOthers js holder p found
    found_all left found e h = record {
      listed = given;
      exact = exact;
      others = sym (append-nil found) ∙ (ap (λ (xs : List Ref). found ++ others_in js holder p xs) (sym e) ∙ h.all);
    }

    pub too_many : (left more found : List Ref) (r : Ref) (most : ℕ) → left ≡ r ∷ more
        → tells_others js holder p r ≡ true → most ≤ length found → HasFound given left found
        → IsFewOthers js holder p most None
    too_many left more found r most e t le h =
        let next = one_found given left more found r e t h in
        let long : most < length (others_in js holder p given) =
        omega (
          arith,
          sym (ap length next.all) ∙ length-append (found ++ r ∷ []) (others_in js holder p more),
          length-append found (r ∷ []),
        ) in
        (others_in js holder p given, record { listed = given; exact = exact; others = refl }, long)

-- ---- the least of them that no entry names

next_left : (others : List Ref) (i : ℕ) (d : Ref) → i < length others
    → drop i others ≡ get_or others i d ∷ drop (i + 1) others
next_left others i d lt = rw add-one (drop-cons others i d lt)

module _ (P : Ref → Type 0) (others : List Ref) (i : ℕ) (d : Ref) (lt : i < length others) (o : Option Ref) where
  pub next_kept : (ComesFirst (get_or others i d) o → P (get_or others i d) → ⊥) → IsWalked P others (drop i others) o
      → IsWalked P others (drop (i + 1) others) o
  next_kept n w = one_kept P others (drop i others) (drop (i + 1) others) o (get_or others i d)
      (next_left others i d lt) n w

  pub next_more : P (get_or others i d) → ComesFirst (get_or others i d) o → IsWalked P others (drop i others) o
      → IsWalked P others (drop (i + 1) others) (Some (get_or others i d))
  next_more u is w = one_more P others (drop i others) (drop (i + 1) others) o (get_or others i d)
      (next_left others i d lt) u is w

module _ (js : Journals) (c : Certificate) (others : List Ref) (known : AreOthers js c.holder c.prefix others) where
  uncovered_known : (r : Ref) → IsUncovered js c r → Has others r
  uncovered_known r u = subst (λ (rs : List Ref). Has rs r) (sym known.others)
      (Has-filter (tells_others js c.holder c.prefix) r (told_by js c r (delegation_of js r) refl u) known.listed
      (uncovered_listed js c known.listed known.exact r u))

  all_covered : ((r : Ref) → IsUncovered js c r → ⊥) → IsCovered js c
  all_covered none r g foreign = elim (cases_Bool (is_named c r)) [
    | inl t ↦ (decides_named c r).0 t
    | inr f ↦ absurd (none r (g, foreign, λ named. let t = (decides_named c r).1 named in absurd (cc)))
  ]

  pub uncovered_of : (left : List Ref) → left ≡ [] → (o : Option Ref) → IsWalked (IsUncovered js c) others left o
      → MatchOption o (IsCovered js c) (IsLeast (IsUncovered js c))
  uncovered_of left none None w = all_covered (nowhere (IsUncovered js c) others uncovered_known left none w)
  uncovered_of left none (Some m) w = least_found (IsUncovered js c) others uncovered_known left none m w
