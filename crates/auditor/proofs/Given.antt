-- What a plain source gives is what the journals have.
use Rattle.std.specs.Prelude.{◌≡◌, ℕ, ◌+◌, ◌-◌, ◌<◌, ◌≤◌, Bool, true, false, ◌↔◌, IsTrue, List, [], ◌∷◌, ◌++◌, length}
use Rattle.std.specs.Prelude.{drop, Some, slice_get, cond, ◌⊎◌, Contains as Has}
use Rattle.std.specs.Bool.{Decides}
use Rattle.std.proofs.Common.{sym, ◌∙◌, ap, subst, refl, arith, get_or, add-one, zero, suc, inl, inr}
use Rattle.std.proofs.lemmas.Bool.{cases_Bool, cases_lt}
use Rattle.std.proofs.Math.Seq.{drop-cons}
use Rattle.std.proofs.lemmas.List.{drop_all}
use Rattle.std.proofs.lemmas.Bool.Decides.{same_from_decides}
use Rattle.std.proofs.lemmas.Option.{slice_get_within, get_or_from_slice_get, slice_get-get_or}
use Rattle.binding_rules.specs.declared.role.Role.{Role}
use Rattle.binding_rules.specs.declared.role.Role.TheVariants.{Primary, Secondary}
use Rattle.prefix_range.specs.Prefix.{Prefix, Overlaps}
use Rattle.journal_lines.specs.declared.event.Event.{Event}
use Rattle.journal_lines.specs.declared.event.Event.TheVariants.{Grant, Carry, Release}
use Rattle.journal_lines.specs.declared.line.Line.{Line}
use Rattle.causal_order.specs.declared.reference.Ref.{Ref}
use Rattle.causal_order.specs.Journals.{Journals, Names, journal_of}
use Rattle.attribution.specs.declared.delegation.Delegation.{Delegation}
use Rattle.attribution.specs.Listing.{Concerns, IsListing}
use Rattle.attribution.specs.Tests.{overlaps, is_release_of}
use Rattle.attribution.proofs.Deciding.{decides_overlaps, decides_release}
use Rattle.auditor.specs.Passing.{concerns, passing_from, passing}
use Rattle.auditor.specs.Walks.{AreReleases}

pub overlap_tested : (p q : Prefix) (b : Bool) → IsTrue b ↔ Overlaps q p → b ≡ overlaps q p
overlap_tested p q b h = same_from_decides b (overlaps q p) h (decides_overlaps q p)

pub release_tested : (d : Delegation) (e : Event) (b : Bool) → IsTrue b ↔ (e ≡ Release d.client d.iaid d.prefix)
    → b ≡ is_release_of d e
release_tested d e b h = same_from_decides b (is_release_of d e) h (decides_release d e)

decides_concerns : (p : Prefix) (e : Event) → Decides (concerns p e) (Concerns p e)
decides_concerns p (Grant g) = decides_overlaps g.prefix p
decides_concerns p (Carry c) = decides_overlaps c.prefix p
decides_concerns p (Release client iaid q) = decides_overlaps q p
decides_concerns p _ = (λ h. absurd (cc), λ h. absurd h)

pub Contains-get : {X : Type 0} (xs : List X) (i : ℕ) (x : X) → slice_get xs i ≡ Some x → Has xs x
Contains-get xs i x e = (i, slice_get_within xs i x e, get_or_from_slice_get xs i x x e)

pub get-Contains : {X : Type 0} (xs : List X) (x : X) → Has xs x → (i : ℕ) × (i < length xs) × (slice_get xs i ≡ Some x)
get-Contains xs x h = (h.0, h.1, slice_get-get_or xs h.0 x h.1 ∙ ap (λ y. Some y) h.2)

abbrev here : Role → ℕ → Ref
here side number = record { side = side; number = number }

-- ---- the next of them

module _ (t : Event → Bool) (side : Role) (lines : List Line) (d : Line) (i : ℕ) (lt : i < length lines) where
  rest_of : List Ref
  rest_of = passing_from t side (i + 1 + 1) (drop (i + 1) lines)

  step : passing_from t side (i + 1) (drop i lines) ≡ cond (t (get_or lines i d).event)
      (here side (i + 1) ∷ rest_of) rest_of
  unfolding rest_of
  step = rw (drop-cons lines i d lt) (ap (λ (n : ℕ). cond (t (get_or lines i d).event)
      (here side (i + 1) ∷ passing_from t side (i + 1 + 1) (drop n lines))
      (passing_from t side (i + 1 + 1) (drop n lines))) (sym (add-one i)))

  pub found_here : t (get_or lines i d).event ≡ true → passing_from t side (i + 1) (drop i lines)
      ≡ here side (i + 1) ∷ passing_from t side (i + 1 + 1) (drop (i + 1) lines)
  unfolding rest_of
  found_here y = step ∙ ap (λ (b : Bool). cond b (here side (i + 1) ∷ rest_of) rest_of) y

  pub passed_by : t (get_or lines i d).event ≡ false → passing_from t side (i + 1) (drop i lines)
      ≡ passing_from t side (i + 1 + 1) (drop (i + 1) lines)
  unfolding rest_of
  passed_by n = step ∙ ap (λ (b : Bool). cond b (here side (i + 1) ∷ rest_of) rest_of) n

pub none_behind : (t : Event → Bool) (side : Role) (lines : List Line) (i : ℕ) → length lines ≤ i
    → passing_from t side (i + 1) (drop i lines) ≡ []
none_behind t side lines i le = ap (passing_from t side (i + 1)) (drop_all i lines le)

module _ (t : Event → Bool) (js : Journals) (first second : ℕ) where
  pub first_given : (r : Ref) → passing_from t Primary (first + 1) (drop first js.a.lines)
      ≡ r ∷ passing_from t Primary (r.number + 1) (drop r.number js.a.lines)
      → passing t js first second ≡ r ∷ passing t js r.number second
  first_given r e = ap (λ (rs : List Ref). rs ++ passing_from t Secondary (second + 1) (drop second js.b.lines)) e

  pub second_given : (r : Ref) (n : ℕ) → n ≡ length js.a.lines
      → passing_from t Primary (first + 1) (drop first js.a.lines) ≡ []
      → passing_from t Secondary (second + 1) (drop second js.b.lines)
      ≡ r ∷ passing_from t Secondary (r.number + 1) (drop r.number js.b.lines)
      → passing t js first second ≡ r ∷ passing t js n r.number
  second_given r n long none e =
      ap (λ (rs : List Ref). rs ++ passing_from t Secondary (second + 1) (drop second js.b.lines)) none
      ∙ (e ∙ ap (λ (rs : List Ref). r ∷ (rs ++ passing_from t Secondary (r.number + 1) (drop r.number js.b.lines)))
      (sym (none_behind t Primary js.a.lines n (omega (arith, long)))))

  pub none_given : passing_from t Primary (first + 1) (drop first js.a.lines) ≡ []
      → passing_from t Secondary (second + 1) (drop second js.b.lines) ≡ [] → passing t js first second ≡ []
  none_given a b = ap (λ (rs : List Ref). rs ++ passing_from t Secondary (second + 1) (drop second js.b.lines)) a ∙ b

-- ---- the lines of one side

in_from : (t : Event → Bool) (side : Role) (n : ℕ) (lines : List Line) (k : ℕ) (l : Line) → slice_get lines k ≡ Some l
    → t l.event ≡ true
    → (i : ℕ) × (slice_get (passing_from t side n lines) i ≡ Some (here side (n + k)))
in_from t side n [] k l e y = absurd (cc)
in_from t side n (x ∷ xs) zero l e y =
    let same : x ≡ l = cc in
    let passes : t x.event ≡ true = ap (λ (z : Line). t z.event) same ∙ y in
    (0, rw passes (ap (λ (m : ℕ). Some (here side m)) (let z : n ≡ n + 0 = omega arith in z)))
in_from t side n (x ∷ xs) (suc k) l e y =
    let m = in_from t side (n + 1) xs k l e y in
    let at : slice_get (passing_from t side (n + 1) xs) m.0 ≡ Some (here side (n + suc k)) =
    m.1 ∙ ap (λ (m : ℕ). Some (here side m)) (let z : n + 1 + k ≡ n + suc k = omega arith in z) in
    elim (cases_Bool (t x.event)) [
      | inl y ↦ (suc m.0, rw y at)
      | inr f ↦ (m.0, rw f at)
    ]

-- where a line of the list stands in the journal
IsFrom : (Event → Bool) → Role → ℕ → List Line → Ref → Type 0
IsFrom t side n lines r = (k : ℕ) × (l : Line) × (r ≡ here side (n + k)) × (slice_get lines k ≡ Some l)
    × (t l.event ≡ true)

from_later : (t : Event → Bool) (side : Role) (n : ℕ) (x : Line) (xs : List Line) (r : Ref)
    → IsFrom t side (n + 1) xs r → IsFrom t side n (x ∷ xs) r
unfolding IsFrom
from_later t side n x xs r h = (
  suc h.0,
  h.1,
  h.2 ∙ ap (here side) (let z : n + 1 + h.0 ≡ n + suc h.0 = omega arith in
      z),
  h.3,
  h.4,
)

from_in : (t : Event → Bool) (side : Role) (n : ℕ) (lines : List Line) (i : ℕ) (r : Ref)
    → slice_get (passing_from t side n lines) i ≡ Some r → IsFrom t side n lines r
unfolding IsFrom
from_in t side n [] i r e = absurd (cc)
from_in t side n (x ∷ xs) zero r e = elim (cases_Bool (t x.event)) [
  | inl y ↦ (let is = rw y at e in (
    0,
    x,
    (let s : here side n ≡ r = cc in
        sym s ∙ ap (here side) (let z : n ≡ n + 0 = omega arith in z)),
    refl,
    y,
  ))
  | inr f ↦ from_later t side n x xs r (from_in t side (n + 1) xs 0 r (rw f at e))
]
from_in t side n (x ∷ xs) (suc i) r e = elim (cases_Bool (t x.event)) [
  | inl y ↦ from_later t side n x xs r (from_in t side (n + 1) xs i r (rw y at e))
  | inr f ↦ from_later t side n x xs r (from_in t side (n + 1) xs (suc i) r (rw f at e))
]

not_first : (t : Event → Bool) (side : Role) (n i : ℕ) (xs : List Line) (r : Ref) → here side n ≡ r
    → slice_get (passing_from t side (n + 1) xs) i ≡ Some r → ⊥
unfolding IsFrom
not_first t side n i xs r e h = let f = from_in t side (n + 1) xs i r h in
    let m : n ≡ n + 1 + f.0 = ap (λ (x : Ref). x.number) (e ∙ f.2) in absurd (omega arith)

once_here : (t : Event → Bool) (side : Role) (n i j : ℕ) (xs : List Line) (r : Ref)
    → ((i j : ℕ) → slice_get (passing_from t side (n + 1) xs) i ≡ Some r
    → slice_get (passing_from t side (n + 1) xs) j ≡ Some r → i ≡ j)
    → slice_get (here side n ∷ passing_from t side (n + 1) xs) i ≡ Some r
    → slice_get (here side n ∷ passing_from t side (n + 1) xs) j ≡ Some r → i ≡ j
once_here t side n zero zero xs r later a b = refl
once_here t side n zero (suc j) xs r later a b =
    absurd (not_first t side n j xs r (let e : here side n ≡ r = cc in e) b)
once_here t side n (suc i) zero xs r later a b =
    absurd (not_first t side n i xs r (let e : here side n ≡ r = cc in e) a)
once_here t side n (suc i) (suc j) xs r later a b = ap suc (later i j a b)

once_from : (t : Event → Bool) (side : Role) (n : ℕ) (lines : List Line) (i j : ℕ) (r : Ref)
    → slice_get (passing_from t side n lines) i ≡ Some r → slice_get (passing_from t side n lines) j ≡ Some r → i ≡ j
once_from t side n [] i j r a b = absurd (cc)
once_from t side n (x ∷ xs) i j r a b =
    let later = λ (i j : ℕ) (a : slice_get (passing_from t side (n + 1) xs) i ≡ Some r)
    (b : slice_get (passing_from t side (n + 1) xs) j ≡ Some r). once_from t side (n + 1) xs i j r a b in
    elim (cases_Bool (t x.event)) [
      | inl y ↦ once_here t side n i j xs r later (rw y at a) (rw y at b)
      | inr f ↦ later i j (rw f at a) (rw f at b)
    ]

-- ---- both sides

get_first : {X : Type 0} (xs ys : List X) (i : ℕ) → i < length xs → slice_get (xs ++ ys) i ≡ slice_get xs i
get_first [] ys i lt = absurd (omega arith)
get_first (x ∷ xs) ys zero lt = refl
get_first (x ∷ xs) ys (suc i) lt = get_first xs ys i (omega arith)

get_second : {X : Type 0} (xs ys : List X) (i : ℕ) → length xs ≤ i
    → slice_get (xs ++ ys) i ≡ slice_get ys (i - length xs)
get_second [] ys i le = ap (slice_get ys) (let n : i ≡ i - 0 = omega arith in n)
get_second (x ∷ xs) ys zero le = absurd (omega arith)
get_second (x ∷ xs) ys (suc i) le = get_second xs ys i (omega arith)
    ∙ ap (slice_get ys) (let n : i - length xs ≡ suc i - suc (length xs) = omega arith in n)

module _ (t : Event → Bool) (js : Journals) where
  firsts : List Ref
  firsts = passing_from t Primary 1 js.a.lines

  given_first : (i : ℕ) → i < length (passing_from t Primary 1 js.a.lines)
      → slice_get (passing t js 0 0) i ≡ slice_get (passing_from t Primary 1 js.a.lines) i
  given_first i lt = get_first (passing_from t Primary 1 js.a.lines) (passing_from t Secondary 1 js.b.lines) i lt

  given_second : (i : ℕ) → length (passing_from t Primary 1 js.a.lines) ≤ i
      → slice_get (passing t js 0 0) i ≡ slice_get (passing_from t Secondary 1 js.b.lines)
      (i - length (passing_from t Primary 1 js.a.lines))
  given_second i le = get_second (passing_from t Primary 1 js.a.lines) (passing_from t Secondary 1 js.b.lines) i le

  -- where a given line stands: a place on one side
  Stands : Role → ℕ → Ref → Type 0
  Stands side i r = slice_get (passing_from t side 1 (journal_of js side)) i ≡ Some r

  stands : (i : ℕ) (r : Ref) → slice_get (passing t js 0 0) i ≡ Some r
      → ((i < length firsts) × Stands Primary i r) ⊎ ((length firsts ≤ i) × Stands Secondary (i - length firsts) r)
  unfolding firsts Stands
  stands i r e = elim (cases_lt i (length (passing_from t Primary 1 js.a.lines))) [
    | inl lt ↦ inl (lt, sym (given_first i lt) ∙ e)
    | inr le ↦ inr (le, sym (given_second i le) ∙ e)
  ]

  given_primary : (i : ℕ) (r : Ref) → slice_get (passing_from t Primary 1 js.a.lines) i ≡ Some r
      → Has (passing t js 0 0) r
  given_primary i r e = Contains-get (passing t js 0 0) i r (given_first i (slice_get_within _ i r e) ∙ e)

  given_secondary : (i : ℕ) (r : Ref) → slice_get (passing_from t Secondary 1 js.b.lines) i ≡ Some r
      → Has (passing t js 0 0) r
  given_secondary i r e =
      let n = length (passing_from t Primary 1 js.a.lines) in
      Contains-get (passing t js 0 0) (n + i) r (given_second (n + i) (omega arith)
      ∙ (ap (slice_get (passing_from t Secondary 1 js.b.lines)) (let z : n + i - n ≡ i = omega arith in z) ∙ e))

  given_from : (side : Role) (i : ℕ) (r : Ref) → Stands side i r → Has (passing t js 0 0) r
  unfolding Stands
  given_from Primary i r e = given_primary i r e
  given_from Secondary i r e = given_secondary i r e

  pub all_given : (r : Ref) (l : Line) → Names js r l → t l.event ≡ true → Has (passing t js 0 0) r
  unfolding Stands
  all_given r l names c =
      let m = in_from t r.side 1 (journal_of js r.side) (r.number - 1) l names.1 c in
      given_from r.side m.0 r (m.1 ∙ ap (λ (n : ℕ). Some (here r.side n)) (let some = names.0 in
      let z : 1 + (r.number - 1) ≡ r.number = omega arith in z))

  names_from : (side : Role) (i : ℕ) (r : Ref) → Stands side i r → (l : Line) × Names js r l × (t l.event ≡ true)
  unfolding Stands IsFrom
  names_from side i r e =
      let f = from_in t side 1 (journal_of js side) i r e in (
        f.1,
        subst (λ (x : Ref). Names js x f.1) (sym f.2) (
          omega arith,
          ap (slice_get (journal_of js side)) (let z : 1 + f.0 - 1 ≡ f.0 = omega arith in z) ∙ f.3,
        ),
        f.4,
      )

  pub only_given : (r : Ref) → Has (passing t js 0 0) r → (l : Line) × Names js r l × (t l.event ≡ true)
  only_given r h =
      let g = get-Contains (passing t js 0 0) r h in
      elim (stands g.0 r g.2) [
        | inl x ↦ names_from Primary g.0 r x.1
        | inr x ↦ names_from Secondary (g.0 - length firsts) r x.1
      ]

  side_of : (side : Role) (i : ℕ) (r : Ref) → Stands side i r → r.side ≡ side
  unfolding Stands IsFrom
  side_of side i r e = ap (λ (x : Ref). x.side) (from_in t side 1 (journal_of js side) i r e).2

  one_side : (i j : ℕ) (r : Ref) → Stands Primary i r → Stands Secondary j r → ⊥
  one_side i j r a b = let e : Primary ≡ Secondary = sym (side_of Primary i r a) ∙ side_of Secondary j r b in cc

  pub once_given : (i j : ℕ) (r : Ref) → slice_get (passing t js 0 0) i ≡ Some r
      → slice_get (passing t js 0 0) j ≡ Some r → i ≡ j
  unfolding Stands
  once_given i j r a b = elim (stands i r a) [
    | inl x ↦ elim (stands j r b) [
      | inl y ↦ once_from t Primary 1 js.a.lines i j r x.1 y.1
      | inr y ↦ absurd (one_side i (j - length firsts) r x.1 y.1)
    ]
    | inr x ↦ elim (stands j r b) [
      | inl y ↦ absurd (one_side j (i - length firsts) r y.1 x.1)
      | inr y ↦ (let e = once_from t Secondary 1 js.b.lines (i - length firsts) (j - length firsts) r x.1 y.1 in
          omega (arith, e, x.0, y.0))
    ]
  ]

module _ (js : Journals) where
  pub passing_is_listing : (p : Prefix) → IsListing js p (passing (concerns p) js 0 0)
  passing_is_listing p = record {
    all = λ r l names c. all_given (concerns p) js r l names ((decides_concerns p l.event).1 c);
    only = λ r has. (let o = only_given (concerns p) js r has in (o.0, o.1, (decides_concerns p o.0.event).0 o.2));
    once = once_given (concerns p) js;
  }

  pub passing_are_releases : (d : Delegation) → AreReleases js d (passing (is_release_of d) js 0 0)
  passing_are_releases d = record {
    all = λ r back. all_given (is_release_of d) js r back.0 back.1 ((decides_release d back.0.event).1 back.2);
    only = λ r has. (let o = only_given (is_release_of d) js r has in (o.0, o.1, (decides_release d o.0.event).0 o.2));
  }
