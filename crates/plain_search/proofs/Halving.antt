-- The first of releases that rise, and what it shows of the others.
use Rattle.std.specs.Prelude.{◌≡◌, ℕ, ◌+◌, ◌*◌, ◌<◌, ◌≤◌, ◌⊎◌, ◌↔◌, min, not, Bool, true, false, List, length, nat_lt}
use Rattle.std.specs.Prelude.{Option, Some, None, MatchOption, All, Contains as Has}
use Rattle.std.specs.List.Sorted.{IsPartitionedBy, IsPartitionPoint}
use Rattle.std.specs.Bool.{Decides}
use Rattle.std.proofs.Common.{arith, sym, ◌∙◌, subst, refl, inl, inr, get_or}
use Rattle.std.proofs.lemmas.Bool.{cases_lt}
use Rattle.std.proofs.lemmas.Bool.Decides.{Decides-or, Decides-ltb}
use Rattle.binding_rules.specs.declared.role.Role.{Role}
use Rattle.binding_rules.specs.declared.role.Role.TheVariants.{Primary, Secondary}
use Rattle.causal_order.specs.declared.reference.Ref.{Ref}
use Rattle.causal_order.specs.Journals.{Journals}
use Rattle.causal_order.specs.Order.{IsLater}
use Rattle.causal_order.specs.Tests.{is_later}
use Rattle.causal_order.specs.Bounds.{reading_of}
use Rattle.causal_order.proofs.Deciding.{decides_later}
use Rattle.attribution.specs.declared.delegation.Delegation.{Delegation}
use Rattle.attribution.specs.Delegation.{of_lease}
use Rattle.attribution.specs.Acceptance.{GivesBack}
use Rattle.plain_search.specs.declared.query.Query.{Query}
use Rattle.plain_search.specs.declared.reach.Candidate.{Candidate}
use Rattle.plain_search.specs.declared.collected.DatedRelease.{DatedRelease}
use Rattle.plain_search.specs.declared.collected.Releases.{Releases}
use Rattle.plain_search.specs.Search.{IsReadAt, IsPlainlyBefore, IsKeptTo, AreKeptTo, IsReturnedBy}
use Rattle.plain_search.specs.Collected.{IsRelease, AreReleasesOn, IsFollowedBy, AreRising, AreReleases}
use Rattle.plain_search.specs.Collected.{AreGivenBackAlike, shows_before, IsFirstFailing, NoneFails, IsKeptBy, IsReturn}
use Rattle.plain_search.proofs.Orders.{one_reading, not_both, before_by_tests, tests_before}

-- ---- what the test of two lines decides

abbrev pub IsShownBefore : ℕ → DatedRelease → DatedRelease → Type 0
IsShownBefore skew x z = IsLater x.at z.at ⊎ (x.reading + 2 * skew < z.reading)

pub decides_before : (skew : ℕ) (x z : DatedRelease) → Decides (shows_before skew x z) (IsShownBefore skew x z)
decides_before skew x z = Decides-or (is_later x.at z.at) (nat_lt (x.reading + 2 * skew) z.reading)
    (decides_later x.at z.at) (Decides-ltb (x.reading + 2 * skew) z.reading)

-- ---- it parts lines that rise

before_lower : (skew : ℕ) (x y z : DatedRelease) → IsFollowedBy x y → IsShownBefore skew y z → IsShownBefore skew x z
before_lower skew x y z f (inl later) = inl (later.0 ∙ sym f.0, (let a = f.1 in let b = later.1 in omega arith))
before_lower skew x y z f (inr apart) = inr (let a = f.2 in omega arith)

after_higher : (skew : ℕ) (x y z : DatedRelease) → IsFollowedBy x y → IsShownBefore skew z x → IsShownBefore skew z y
after_higher skew x y z f (inl later) = inl (sym f.0 ∙ later.0, (let a = f.1 in let b = later.1 in omega arith))
after_higher skew x y z f (inr apart) = inr (let a = f.2 in omega arith)

not_true : (b : Bool) → b ≡ false → not b ≡ true
not_true b e = cc

not_is_true : (b : Bool) → not b ≡ true → b ≡ false
not_is_true true e = absurd (cc)
not_is_true false e = refl

not_is_false : (b : Bool) → not b ≡ false → b ≡ true
not_is_false true e = refl
not_is_false false e = absurd (cc)

false_or_true : (b : Bool) → (b ≡ true) ⊎ (b ≡ false)
false_or_true true = inl refl
false_or_true false = inr refl

module _ (skew : ℕ) (xs : List DatedRelease) (rising : AreRising xs) where
  pub parted_before : (z : DatedRelease) → IsPartitionedBy (λ (x : DatedRelease). shows_before skew x z) xs
  parted_before z i j d le lt t = (decides_before skew (get_or xs i d) z).1
      (before_lower skew (get_or xs i d) (get_or xs j d) z (rising i j d le lt)
      ((decides_before skew (get_or xs j d) z).0 t))

  after_by : (z x y : DatedRelease) → IsFollowedBy x y → shows_before skew z y ≡ false → (b : Bool)
      → shows_before skew z x ≡ b → b ≡ false
  after_by z x y f e true is =
      absurd (not_both ((decides_before skew z y).1 (after_higher skew x y z f ((decides_before skew z x).0 is))) e)
  after_by z x y f e false is = refl

  pub parted_after : (z : DatedRelease) → IsPartitionedBy (λ (x : DatedRelease). not (shows_before skew z x)) xs
  parted_after z i j d le lt t =
      not_true (shows_before skew z (get_or xs i d))
      (after_by z (get_or xs i d) (get_or xs j d) (rising i j d le lt)
      (not_is_true (shows_before skew z (get_or xs j d)) t) (shows_before skew z (get_or xs i d)) refl)

-- ---- the first that fails

module _ (test : DatedRelease → Bool) (xs : List DatedRelease) (i : ℕ) (point :
    IsPartitionPoint (λ (x : DatedRelease). test x ≡ true) (λ (x : DatedRelease). test x ≡ false) xs i) where
  pub none_fails : length xs ≤ i → NoneFails test xs
  none_fails le z has = subst (λ (x : DatedRelease). test x ≡ true) has.2
      (point.0 has.0 z (omega arith) (let lt = has.1 in omega arith))

  least_by : AreRising xs → i < length xs → (z : DatedRelease) → Has xs z → test z ≡ false
      → (get_or xs i z).reading ≤ z.reading
  least_by rising lt z has fails = elim (cases_lt has.0 i) [
    | inl less ↦ absurd (not_both (subst (λ (x : DatedRelease). test x ≡ true) has.2 (point.0 has.0 z (omega arith) less))
        fails)
    | inr ge ↦ subst (λ (x : DatedRelease). (get_or xs i z).reading ≤ x.reading) has.2 ((rising i has.0 z ge has.1).2)
  ]

  pub first_fails : AreRising xs → (x : DatedRelease) → i < length xs → ((d : DatedRelease) → get_or xs i d ≡ x)
      → IsFirstFailing test xs x
  first_fails rising x lt at = record {
    has = (i, lt, at x);
    fails = subst (λ (y : DatedRelease). test y ≡ false) (at x) (point.1 i x (omega arith) lt);
    least = λ z has fails. subst (λ (y : DatedRelease). y.reading ≤ z.reading) (at z) (least_by rising lt z has fails);
  }

-- ---- what a server's releases leave

module _ (skew : ℕ) (grant : DatedRelease) (xs : List DatedRelease) (limit : ℕ) where
  pub kept_all_by : NoneFails (λ (x : DatedRelease). shows_before skew x grant) xs → (least : ℕ) → (least ≤ limit)
      ↔ ((least ≤ limit) × IsKeptBy skew grant xs least)
  kept_all_by none least = (λ le. (le, λ z has fails. absurd (not_both (none z has) fails)), λ h. h.0)

  pub kept_first_by : (x : DatedRelease) → IsFirstFailing (λ (y : DatedRelease). shows_before skew y grant) xs x → (least : ℕ)
      → (least ≤ min limit x.reading) ↔ ((least ≤ limit) × IsKeptBy skew grant xs least)
  kept_first_by x h least = (
    λ le. (omega arith, λ z has fails. (let a = h.least z has fails in omega arith)),
    λ two. (let a = two.0 in let b = two.1 x h.has h.fails in omega arith),
  )

-- ---- what both servers' do

back_alike : (js : Journals) (d e : Delegation) (j : Ref) → AreGivenBackAlike d e → GivesBack js j d → GivesBack js j e
back_alike js d e j h back = (
  back.0,
  back.1,
  (let a = h.client in let b = h.iaid in let c = h.prefix in
      let f = back.2 in cc),
)

alike_back : (js : Journals) (d e : Delegation) (j : Ref) → AreGivenBackAlike d e → GivesBack js j e → GivesBack js j d
alike_back js d e j h back = (
  back.0,
  back.1,
  (let a = h.client in let b = h.iaid in let c = h.prefix in
      let f = back.2 in cc),
)

of_all : {X : Type 0} (P : X → Type 0) (xs : List X) (x : X) → All P xs → Has xs x → P x
of_all P xs x h has = subst P has.2 (h has.0 x has.1)

module _ (js : Journals) (d : Delegation) (c : Releases) (all : AreReleases js c)
    (alike : AreGivenBackAlike c.delegation d) where
  primary_is : (x : DatedRelease) → Has c.primary.items x → IsRelease js c.delegation x
  primary_is x has = of_all (IsRelease js c.delegation) c.primary.items x all.primary.each has

  secondary_is : (x : DatedRelease) → Has c.secondary.items x → IsRelease js c.delegation x
  secondary_is x has = of_all (IsRelease js c.delegation) c.secondary.items x all.secondary.each has

  -- ---- a grant

  module _ (skew least : ℕ) (grant : DatedRelease) (g : Candidate) (at : grant.at ≡ g.grant) (of : d ≡ of_lease g.lease)
      (read : Some grant.reading ≡ reading_of js grant.at) where
    shown_plainly : (x : DatedRelease) → IsReadAt js x.at x.reading → IsShownBefore skew x grant
        → IsPlainlyBefore js skew x.at g.grant
    shown_plainly x is shown = subst (λ (r : Ref). IsPlainlyBefore js skew x.at r) at
        (before_by_tests js skew x.at grant.at x.reading grant.reading (sym is) read
        (elim shown [ inl later ↦ inl later | inr apart ↦ inr (omega arith) ]))

    plainly_shown : (x : DatedRelease) → IsReadAt js x.at x.reading → IsPlainlyBefore js skew x.at g.grant
        → IsShownBefore skew x grant
    plainly_shown x is before =
        elim (tests_before js skew x.at grant.at x.reading grant.reading (sym is) read
        (subst (λ (r : Ref). IsPlainlyBefore js skew x.at r) (sym at) before)) [
          | inl later ↦ inl later
          | inr apart ↦ inr (omega arith)
        ]

    kept_at : (x : DatedRelease) → IsReadAt js x.at x.reading → (shows_before skew x grant ≡ false → least ≤ x.reading)
        → IsKeptTo js skew g least x.at
    kept_at x is h = elim (false_or_true (shows_before skew x grant)) [
      | inl shown ↦ inl (shown_plainly x is ((decides_before skew x grant).0 shown))
      | inr fails ↦ inr (x.reading, is, h fails)
    ]

    least_at : (x : DatedRelease) → IsReadAt js x.at x.reading → shows_before skew x grant ≡ false
        → IsKeptTo js skew g least x.at → least ≤ x.reading
    least_at x is fails (inl before) = absurd
        (not_both ((decides_before skew x grant).1 (plainly_shown x is before)) fails)
    least_at x is fails (inr from) = let same = one_reading js x.at from.0 x.reading from.1 is in let y = from.2 in
        omega arith

    kept_on : (side : Role) (xs : List DatedRelease) → AreReleasesOn js c.delegation side xs → IsKeptBy skew grant xs least
        → (j : Ref) → GivesBack js j c.delegation → j.side ≡ side → IsKeptTo js skew g least j
    kept_on side xs on h j back is =
        let has = on.all j back is in
        let x = has.0 in
        subst (IsKeptTo js skew g least) has.2 (kept_at x (of_all (IsRelease js c.delegation) xs x on.each has.1).read
        (λ fails. h x has.1 fails))

    kept_side : (side : Role) (j : Ref) → j.side ≡ side → IsKeptBy skew grant c.primary.items least
        → IsKeptBy skew grant c.secondary.items least → GivesBack js j c.delegation → IsKeptTo js skew g least j
    kept_side Primary j is one other back = kept_on Primary c.primary.items all.primary one j back is
    kept_side Secondary j is one other back = kept_on Secondary c.secondary.items all.secondary other j back is

    lease_back : (j : Ref) → GivesBack js j (of_lease g.lease) → GivesBack js j c.delegation
    lease_back j back = alike_back js c.delegation d j alike
        (subst (λ (e : Delegation). GivesBack js j e) (sym of) back)

    back_lease : (j : Ref) → GivesBack js j c.delegation → GivesBack js j (of_lease g.lease)
    back_lease j back = subst (λ (e : Delegation). GivesBack js j e) of (back_alike js c.delegation d j alike back)

    kept_of_all : (side : Role) (xs : List DatedRelease) → AreReleasesOn js c.delegation side xs → AreKeptTo js skew g least
        → IsKeptBy skew grant xs least
    kept_of_all side xs on h z has fails =
        let is = of_all (IsRelease js c.delegation) xs z on.each has in
        least_at z is.read fails (h z.at (back_lease z.at is.back))

    pub both_keep : (xs ys : List DatedRelease) → xs ≡ c.primary.items → ys ≡ c.secondary.items → (limit kept more : ℕ)
        → (least ≤ kept) ↔ ((least ≤ limit) × IsKeptBy skew grant xs least) → (least ≤ more)
        ↔ ((least ≤ kept) × IsKeptBy skew grant ys least)
        → (least ≤ more) ↔ ((least ≤ limit) × AreKeptTo js skew g least)
    both_keep xs ys e f limit kept more one two = (
      λ le. (
          let b = two.0 le in
          let a = one.0 b.0 in
          let p : IsKeptBy skew grant c.primary.items least =
          subst (λ (zs : List DatedRelease). IsKeptBy skew grant zs least) e a.1 in
          let s : IsKeptBy skew grant c.secondary.items least =
          subst (λ (zs : List DatedRelease). IsKeptBy skew grant zs least) f b.1 in
          (a.0, λ j back. kept_side j.side j refl p s (lease_back j back))),
      λ h. (
          let p : IsKeptBy skew grant xs least = subst (λ (zs : List DatedRelease). IsKeptBy skew grant zs least) (sym e)
          (kept_of_all Primary c.primary.items all.primary h.1) in
          let s : IsKeptBy skew grant ys least = subst (λ (zs : List DatedRelease). IsKeptBy skew grant zs least) (sym f)
          (kept_of_all Secondary c.secondary.items all.secondary h.1) in
          two.1 (one.1 (h.0, p), s)),
    )

  -- ---- a line of another client's

  module _ (q : Query) (line : DatedRelease) (read : Some line.reading ≡ reading_of js line.at) where
    is_return : (x : DatedRelease) → IsRelease js c.delegation x → IsReturn q line x
        → GivesBack js x.at d × IsReturnedBy js q line.at x.at
    is_return x is h = (
      back_alike js c.delegation d x.at alike is.back,
      (
        before_by_tests js q.skew line.at x.at line.reading x.reading read (sym is.read)
            (elim ((decides_before q.skew line x).0 h.0) [ inl later ↦ inl later | inr apart ↦ inr (omega arith) ]),
        (x.reading, is.read, h.1),
      ),
    )

    returned_is : (x : DatedRelease) → IsReadAt js x.at x.reading → IsReturnedBy js q line.at x.at → IsReturn q line x
    returned_is x is h =
        let same = one_reading js x.at h.1.0 x.reading h.1.1 is in
        let le = h.1.2 in (
          (decides_before q.skew line x).1 (elim
              (tests_before js q.skew line.at x.at line.reading x.reading read (sym is) h.0) [
                | inl later ↦ inl later
                | inr apart ↦ inr (omega arith)
              ]),
          omega arith,
        )

    none_on : (side : Role) (xs : List DatedRelease) → AreReleasesOn js c.delegation side xs
        → ((x : DatedRelease) → Has xs x → IsReturn q line x → ⊥) → (j : Ref) → GivesBack js j c.delegation → j.side ≡ side
        → IsReturnedBy js q line.at j → ⊥
    none_on side xs on none j back is returned =
        let has = on.all j back is in
        let x = has.0 in
        none x has.1 (returned_is x (of_all (IsRelease js c.delegation) xs x on.each has.1).read
        (subst (IsReturnedBy js q line.at) (sym has.2) returned))

    none_side : (side : Role) (j : Ref) → j.side ≡ side → ((x : DatedRelease) → Has c.primary.items x → IsReturn q line x → ⊥)
        → ((x : DatedRelease) → Has c.secondary.items x → IsReturn q line x → ⊥) → GivesBack js j c.delegation
        → IsReturnedBy js q line.at j → ⊥
    none_side Primary j is one other back returned = none_on Primary c.primary.items all.primary one j back is returned
    none_side Secondary j is one other back returned =
        none_on Secondary c.secondary.items all.secondary other j back is returned

    none_returns : ((x : DatedRelease) → Has c.primary.items x → IsReturn q line x → ⊥)
        → ((x : DatedRelease) → Has c.secondary.items x → IsReturn q line x → ⊥) → (j : Ref) → GivesBack js j d
        → IsReturnedBy js q line.at j → ⊥
    none_returns one other j back returned =
        none_side j.side j refl one other (alike_back js c.delegation d j alike back) returned

    module _ (xs ys : List DatedRelease) (e : xs ≡ c.primary.items) (f : ys ≡ c.secondary.items) (one other : Option DatedRelease)
        (p : MatchOption one ((x : DatedRelease) → Has xs x → IsReturn q line x → ⊥) (λ x. Has xs x × IsReturn q line x))
        (s : MatchOption other ((x : DatedRelease) → Has ys x → IsReturn q line x → ⊥) (λ x. Has ys x × IsReturn q line x))
      where
        pub some_returns : (x : DatedRelease) → (one ≡ Some x) ⊎ (other ≡ Some x)
            → GivesBack js x.at d × IsReturnedBy js q line.at x.at
        some_returns x (inl is) =
            let h : Has xs x × IsReturn q line x = subst (λ (o : Option DatedRelease). MatchOption o ((z : DatedRelease) → Has xs z
            → IsReturn q line z → ⊥) (λ z. Has xs z × IsReturn q line z)) is p in
            is_return x (primary_is x (subst (λ (zs : List DatedRelease). Has zs x) e h.0)) h.1
        some_returns x (inr is) =
            let h : Has ys x × IsReturn q line x = subst (λ (o : Option DatedRelease). MatchOption o ((z : DatedRelease) → Has ys z
            → IsReturn q line z → ⊥) (λ z. Has ys z × IsReturn q line z)) is s in
            is_return x (secondary_is x (subst (λ (zs : List DatedRelease). Has zs x) f h.0)) h.1

        pub neither_returns : (one ≡ None) × (other ≡ None) → (j : Ref) → GivesBack js j d → IsReturnedBy js q line.at j
            → ⊥
        neither_returns is =
            let a : ((x : DatedRelease) → Has xs x → IsReturn q line x → ⊥) =
            subst (λ (o : Option DatedRelease). MatchOption o ((z : DatedRelease) → Has xs z → IsReturn q line z
            → ⊥) (λ z. Has xs z × IsReturn q line z)) is.0 p in
            let b : ((x : DatedRelease) → Has ys x → IsReturn q line x → ⊥) =
            subst (λ (o : Option DatedRelease). MatchOption o ((z : DatedRelease) → Has ys z → IsReturn q line z
            → ⊥) (λ z. Has ys z × IsReturn q line z)) is.1 s in
            none_returns (λ x has. a x (subst (λ (zs : List DatedRelease). Has zs x) (sym e) has))
            (λ x has. b x (subst (λ (zs : List DatedRelease). Has zs x) (sym f) has))

-- ---- the first release after a line

module _ (q : Query) (line : DatedRelease) (xs : List DatedRelease) where
  pub none_return : NoneFails (λ (x : DatedRelease). not (shows_before q.skew line x)) xs → (x : DatedRelease) → Has xs x
      → IsReturn q line x → ⊥
  none_return none x has h = not_both h.0 (not_is_true (shows_before q.skew line x) (none x has))

  not_false : (b : Bool) → b ≡ true → not b ≡ false
  not_false b e = cc

  pub late_return : (x : DatedRelease) → IsFirstFailing (λ (y : DatedRelease). not (shows_before q.skew line y)) xs x
      → q.from < x.reading + q.skew → (z : DatedRelease) → Has xs z → IsReturn q line z → ⊥
  late_return x h late z has is = let a = h.least z has (not_false (shows_before q.skew line z) is.0) in
      let b = is.1 in absurd (omega arith)

  pub one_return : (x : DatedRelease) → IsFirstFailing (λ (y : DatedRelease). not (shows_before q.skew line y)) xs x
      → x.reading + q.skew ≤ q.from → Has xs x × IsReturn q line x
  one_return x h le = (h.has, (not_is_false (shows_before q.skew line x) h.fails, le))
