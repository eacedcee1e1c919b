-- Grants that are passed in the order in which they begin.
use Rattle.std.specs.Prelude.{◌≡◌, ℕ, ◌+◌, ◌<◌, ◌≤◌, List, length, slice_get, Some}
use Rattle.std.specs.List.Sorted.{IsPermutation}
use Rattle.std.proofs.Common.{arith, sym, ◌∙◌, ap, subst, refl, inl, inr}
use Rattle.std.proofs.Common.{get_or}
use Rattle.std.proofs.lemmas.Bool.{cases_lt}
use Rattle.std.proofs.lemmas.Option.{slice_get-get_or, slice_get_within, get_or_from_slice_get}
use Rattle.std.proofs.lemmas.List.Sorted.{Contains-permutation}
use Rattle.causal_order.specs.Journals.{Journals}
use Rattle.auditor.proofs.Given.{Contains-get, get-Contains}
use Rattle.plain_search.specs.declared.query.Query.{Query}
use Rattle.plain_search.specs.declared.reach.CarriedSpan.{CarriedSpan}
use Rattle.plain_search.specs.declared.sweep.SweepState.{SweepState}
use Rattle.plain_search.specs.Search.{AreAllReaches, AreInOrder, IsPassed, IsFarther, AreLater, NoneReaches, IsFarthest}

module _ (xs : List CarriedSpan) where
  pub none_passed : (m : ℕ) → IsPassed xs m (record { count = 0; best = 0 })
  none_passed m = record {
    within = omega arith;
    begun = λ k x lt e. absurd (omega arith);
    place = omega arith;
    some =
        λ lt. absurd (omega arith);
    most = λ k x z lt e f. absurd (omega arith);
  }

  pub passed_later : (m n : ℕ) (p : SweepState) → m ≤ n → IsPassed xs m p → IsPassed xs n p
  passed_later m n p le h = record {
    within = h.within;
    begun = λ k x lt e. (let b = h.begun k x lt e in omega arith);
    place = h.place;
    some = h.some;
    most = h.most;
  }

  same_at : (i k : ℕ) (x y : CarriedSpan) → slice_get xs i ≡ Some x → slice_get xs k ≡ Some y → i ≡ k → x ≡ y
  same_at i k x y e f is = let two : Some x ≡ Some y = sym e ∙ (ap (slice_get xs) is ∙ f) in cc

  module _ (m count best : ℕ) (x : CarriedSpan) (at : slice_get xs count ≡ Some x) (begun : x.begin ≤ m)
      (within : count < length xs) (h : IsPassed xs m (record { count = count; best = best })) where
    begun_on : (k : ℕ) (y : CarriedSpan) → k < count + 1 → slice_get xs k ≡ Some y → y.begin ≤ m
    begun_on k y lt e = elim (cases_lt k count) [
      | inl less ↦ h.begun k y less e
      | inr ge ↦ (let same = same_at count k x y at e (omega arith) in subst (λ (z : CarriedSpan). z.begin ≤ m) same begun)
    ]

    before : ((z : CarriedSpan) → 0 < count → slice_get xs best ≡ Some z → z.end ≤ x.end) → (k : ℕ) (y : CarriedSpan) → k < count
        → slice_get xs k ≡ Some y → y.end ≤ x.end
    before far k y less e =
        let z = slice_get-get_or xs best x (let lt = h.place in let w = h.within in omega arith) in
        let le = h.most k y (get_or xs best x) less e z in
        let lower = far (get_or xs best x) (omega arith) z in
        omega arith

    -- it carries farther than the best ..
    pub passed_best : ((z : CarriedSpan) → 0 < count → slice_get xs best ≡ Some z → z.end ≤ x.end)
        → IsPassed xs m (record { count = count + 1; best = count })
    passed_best far = record {
      within = omega arith;
      begun = begun_on;
      place = omega arith;
      some = λ lt. omega arith;
      most = λ k y z lt e f. (
          let is = same_at count count x z at f refl in
          elim (cases_lt k count) [
            | inl less ↦ subst (λ (w : CarriedSpan). y.end ≤ w.end) is (before far k y less e)
            | inr ge ↦ (let same = same_at count k x y at e (omega arith) in
                subst (λ (w : CarriedSpan). w.end ≤ z.end) same (subst (λ (w : CarriedSpan). x.end ≤ w.end) is (omega arith)))
          ]);
    }

    -- .. or no farther
    pub passed_more : ((z : CarriedSpan) → slice_get xs best ≡ Some z → x.end ≤ z.end)
        → IsPassed xs m (record { count = count + 1; best = best })
    passed_more near = record {
      within = omega arith;
      begun = begun_on;
      place = (let p = h.place in omega arith);
      some = λ lt. (let p = h.place in omega arith);
      most = λ k y z lt e f. elim (cases_lt k count) [
        | inl less ↦ h.most k y z less e f
        | inr ge ↦ (let same = same_at count k x y at e (omega arith) in
            subst (λ (w : CarriedSpan). w.end ≤ z.end) same (near z f))
      ];
    }

    pub passed_on : (found : ℕ) → IsFarther xs best count found
        → IsPassed xs m (record { count = count + 1; best = found })
    passed_on found far =
        let z = get_or xs best x in
        let here = slice_get-get_or xs best x (let lt = h.place in omega arith) in
        elim (far z x here at) [
          | inl is ↦ subst (λ (n : ℕ). IsPassed xs m (record { count = count + 1; best = n })) (sym is.0)
              (passed_best (λ w lt e. (let same = same_at best best z w here e refl in
              subst (λ (v : CarriedSpan). v.end ≤ x.end) same is.1)))
          | inr is ↦ subst (λ (n : ℕ). IsPassed xs m (record { count = count + 1; best = n })) (sym is.0)
              (passed_more (λ w e. (let same = same_at best best z w here e refl in
              subst (λ (v : CarriedSpan). x.end ≤ v.end) same is.1)))
        ]

  pub none_later : (m count : ℕ) → length xs ≤ count → AreLater xs m count
  none_later m count le k x ge e = let lt = slice_get_within xs k x e in absurd (omega arith)

  pub all_later : (m count : ℕ) (x : CarriedSpan) → AreInOrder xs → slice_get xs count ≡ Some x → m < x.begin
      → AreLater xs m count
  all_later m count x sorted at lt k y ge e =
      let le = sorted count k x ge (slice_get_within xs k y e) in
      let first = get_or_from_slice_get xs count x x at in
      let other = get_or_from_slice_get xs k y x e in
      let below : x.begin ≤ y.begin = subst (λ (w : CarriedSpan). x.begin ≤ w.begin) other
      (subst (λ (w : CarriedSpan). w.begin ≤ (get_or xs k x).begin) first le) in
      omega arith

  -- ---- the farthest of them

  passed_if_begun : (m : ℕ) (p : SweepState) → AreLater xs m p.count → (x : CarriedSpan) (k : ℕ) → slice_get xs k ≡ Some x
      → x.begin ≤ m → k < p.count
  passed_if_begun m p later x k e begun =
      elim (cases_lt k p.count) [ inl lt ↦ lt | inr ge ↦ (let past = later k x ge e in absurd (omega arith)) ]

  pub none_begun : (m : ℕ) (p : SweepState) → p.count ≡ 0 → AreLater xs m p.count → NoneReaches xs m
  none_begun m p none later x has begun = let at = get-Contains xs x has in
      let lt = passed_if_begun m p later x at.0 at.2 begun in absurd (omega arith)

  pub none_farther : (m : ℕ) (p : SweepState) (z : CarriedSpan) → IsPassed xs m p → AreLater xs m p.count
      → slice_get xs p.best ≡ Some z → z.end ≤ m → NoneReaches xs m
  none_farther m p z h later at le x has begun =
      let k = get-Contains xs x has in
      let far = h.most k.0 x z (passed_if_begun m p later x k.0 k.2 begun) k.2 at in
      omega arith

  pub is_farthest : (m : ℕ) (p : SweepState) (z : CarriedSpan) → IsPassed xs m p → AreLater xs m p.count → 0 < p.count
      → slice_get xs p.best ≡ Some z → m < z.end → IsFarthest xs m z
  is_farthest m p z h later some at lt = record {
    has = Contains-get xs p.best z at;
    begins = h.begun p.best z (h.some some) at;
    ends = lt;
    most = λ x has begun. (let k = get-Contains xs x has in
        h.most k.0 x z (passed_if_begun m p later x k.0 k.2 begun) k.2 at);
  }

-- ---- in another order

module _ (js : Journals) (q : Query) (xs ys : List CarriedSpan) (same : IsPermutation xs ys) where
  pub all_sorted : AreAllReaches js q xs → AreAllReaches js q ys
  all_sorted all m r ge at = let x = all m r ge at in (x.0, Contains-permutation xs ys x.0 same x.1, x.2)
