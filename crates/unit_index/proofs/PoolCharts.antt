-- How the marks of a pool's units follow the units.
use Rattle.std.proofs.Common.{◌≡◌, ◌≢◌, ℕ, ◌+◌, ◌-◌, ◌*◌, ◌/◌, ◌^◌, ◌<◌, ◌≤◌, ◌==◌, ◌&&◌, Bool, true, false, List, []}
use Rattle.std.proofs.Common.{◌∷◌, ◌++◌, length, take, drop, get_or, ap, ap₂, sym, ◌∙◌, subst, refl, arith, add-one}
use Rattle.std.specs.Prelude.{if◌then◌else◌, All}
use Rattle.std.specs.List.{AllWithin}
use Rattle.std.proofs.Math.ListN.{set, length-set}
use Rattle.std.proofs.Math.Seq.{map-set_same, take-suc}
use Rattle.std.proofs.lemmas.List.{get_or-set_other, map-append, take-append-le, take_all}
use Rattle.std.proofs.lemmas.List.Elements.{AllWithin-more_set}
use Rattle.std.proofs.Math.Nat.{add-mul}
use Rattle.std.proofs.lemmas.Nat.{div_below}
use Rattle.std.proofs.lemmas.Bool.Decides.{nat_tests}
use Rattle.prefix_range.specs.Prefix.{Prefix, IsPrefix, size_of}
use Rattle.binding_rules.specs.declared.role.Role.{Role}
use Rattle.binding_rules.specs.declared.unit.Unit.{Unit as UnitValue}
use Rattle.book_state.specs.declared.pool.Pool.{Pool}
use Rattle.book_state.specs.Book.{is_in, units_in}
use Rattle.book_state.specs.Effects.{same_prefix}
use Rattle.book_state.specs.Places.{IsPool, IsUnitAt, index_in}
use Rattle.book_state.proofs.Ranges.{within, index_below, unit_of_place}
use Rattle.book_state.proofs.TableLaws.{same_means, same_itself}
use Rattle.unit_index.specs.declared.kind_tree.KindTree.{KindTree}
use Rattle.unit_index.specs.declared.pool_tree.PoolTree.{PoolTree}
use Rattle.unit_index.specs.Kinds.{kinds_of}
use Rattle.unit_index.specs.KindTrees.{leaf}
use Rattle.unit_index.specs.PoolTrees.{HasKinds, with_unit_at, pools_of}
use Rattle.unit_index.proofs.LeastUnits.{address_at}

-- a unit stands at its index
pub stands_at : (pool : Pool) (p : Prefix) → IsPool pool → IsPrefix p → is_in pool p ≡ true
    → IsUnitAt pool (index_in pool p) p
stands_at pool p good whole is = record {
  whole = whole;
  within = is;
  place = refl;
  address =
      address_at pool p good whole is;
}

-- a prefix of another length is none of the pool's
pub other_length : (pool : Pool) (p : Prefix) → p.length ≢ pool.unit_length → is_in pool p ≡ false
other_length pool p ne = by_test (p.length == pool.unit_length) refl
    (p.address / size_of pool.prefix.length == pool.prefix.address / size_of pool.prefix.length) where
      by_test : (s : Bool) → (p.length == pool.unit_length) ≡ s → (t : Bool) → (s && t) ≡ false
      by_test true e t = absurd (ne (grind (arith, nat_tests)))
      by_test false e t = refl

-- the units with one changed, at the one and elsewhere
with_here : (units : Prefix → UnitValue) (p q : Prefix) (u : UnitValue) → q ≡ p → with_unit_at units p u q ≡ u
with_here units p q u e = ap (λ (t : Bool). if t then u else units q) (ap (λ (x : Prefix). same_prefix x p) e
    ∙ same_itself p)

with_there : (units : Prefix → UnitValue) (p q : Prefix) (u : UnitValue) → q ≢ p → with_unit_at units p u q ≡ units q
with_there units p q u ne = by_test (same_prefix q p) refl where
  by_test : (t : Bool) → same_prefix q p ≡ t → (if t then u else units q) ≡ units q
  by_test true e = absurd (ne (same_means q p e))
  by_test false e = refl

-- the mark of the changed unit is put at its place
pub followed_in : (role : Role) (units : Prefix → UnitValue) (c d : PoolTree) (place : ℕ) (p : Prefix) (u : UnitValue)
    → IsPool c.pool → d.pool ≡ c.pool → IsUnitAt c.pool place p
    → ((k : ℕ) → leaf d.chart k ≡ (if k == place then kinds_of role u else leaf c.chart k)) → HasKinds role units c
    → HasKinds role (with_unit_at units p u) d
followed_in role units c d place p u good same at put marked = record { each = each } where
  by_place : (i : ℕ) (q : Prefix) → IsUnitAt c.pool i q → (t : Bool) → (i == place) ≡ t
      → (if t then kinds_of role u else leaf c.chart i) ≡ kinds_of role (with_unit_at units p u q)
  by_place i q stands true e =
      let here : i ≡ place = grind (arith, nat_tests) in
      let one : q ≡ p = unit_of_place c.pool place p q good at stands.whole stands.within (stands.place ∙ here) in
      ap (kinds_of role) (sym (with_here units p q u one))
  by_place i q stands false e =
      let apart : q ≢ p = λ one. (
      let there : index_in c.pool q ≡ index_in c.pool p = ap (index_in c.pool) one in
      let here : i ≡ place = sym stands.place ∙ (there ∙ at.place) in
      absurd (grind (arith, nat_tests))) in
      marked.each i q stands ∙ ap (kinds_of role) (sym (with_there units p q u apart))

  each : (i : ℕ) (q : Prefix) → IsUnitAt d.pool i q → leaf d.chart i ≡ kinds_of role (with_unit_at units p u q)
  each i q stands = put i ∙ by_place i q (subst (λ (k : Pool). IsUnitAt k i q) same stands) (i == place) refl

-- the changed unit is none of the pool's
pub followed_out : (role : Role) (units : Prefix → UnitValue) (c : PoolTree) (p : Prefix) (u : UnitValue)
    → is_in c.pool p ≡ false → HasKinds role units c → HasKinds role (with_unit_at units p u) c
followed_out role units c p u out marked = record {
  each = λ i q stands. (
      let apart : q ≢ p = λ one. (let yes : is_in c.pool p ≡ true = ap (is_in c.pool) (sym one) ∙ stands.within in
      absurd (cc)) in
      marked.each i q stands ∙ ap (kinds_of role) (sym (with_there units p q u apart)));
}

-- ---- a chart is made, place by place

pub record IsMadeTo (role : Role) (units : Prefix → UnitValue) (pool : Pool) (chart : KindTree) (n : ℕ) : Type 0 where
  pub whole : 2 ^ chart.levels ≡ units_in pool
  pub each : (i : ℕ) (p : Prefix) → i < n → IsUnitAt pool i p → leaf chart i ≡ kinds_of role (units p)

pub made_on : (role : Role) (units : Prefix → UnitValue) (pool : Pool) (c d : KindTree) (n : ℕ) (p : Prefix) → IsPool pool
    → IsUnitAt pool n p → d.levels ≡ c.levels
    → ((k : ℕ) → leaf d k ≡ (if k == n then kinds_of role (units p) else leaf c k)) → IsMadeTo role units pool c n
    → IsMadeTo role units pool d (n + 1)
made_on role units pool c d n p good at same put made =
    record {
      whole = ap (λ (l : ℕ). 2 ^ l) same ∙ made.whole;
      each =
          λ i q lt stands. put i ∙ by_place i q lt stands (i == n) refl;
    } where
      by_place : (i : ℕ) (q : Prefix) → i < n + 1 → IsUnitAt pool i q → (t : Bool) → (i == n) ≡ t
          → (if t then kinds_of role (units p) else leaf c i) ≡ kinds_of role (units q)
      by_place i q lt stands true e =
          let here : i ≡ n = grind (arith, nat_tests) in
          let one : q ≡ p = unit_of_place pool n p q good at stands.whole stands.within (stands.place ∙ here) in
          ap (λ (x : Prefix). kinds_of role (units x)) (sym one)
      by_place i q lt stands false e = let less : i < n = grind (arith, nat_tests) in made.each i q less stands

pub made_all : (role : Role) (units : Prefix → UnitValue) (c : PoolTree) (n : ℕ) → IsPool c.pool → units_in c.pool ≤ n
    → IsMadeTo role units c.pool c.chart n → HasKinds role units c
made_all role units c n good le made = record {
  each = λ i p stands. (
      let below = index_below c.pool p good (within c.pool p stands.within) in
      let place = stands.place in
      made.each i p (omega (arith, below, place, le)) stands);
}

-- ---- one register, another state

same_units : (role : Role) (f g : Prefix → UnitValue) (c : PoolTree) → ((q : Prefix) → f q ≡ g q) → HasKinds role f c
    → HasKinds role g c
same_units role f g c same marked = record { each = λ i p stands. marked.each i p stands ∙ ap (kinds_of role) (same p) }

pub all_same : (role : Role) (f g : Prefix → UnitValue) (cs : List PoolTree) → ((q : Prefix) → f q ≡ g q)
    → All (HasKinds role f) cs → All (HasKinds role g) cs
all_same role f g cs same all = λ k d lt. same_units role f g _ same (all k d lt)

-- ---- the first place to look at

pub no_later : (first from i size : ℕ) → 0 < size → from ≤ first + i * size → (from - first) / size ≤ i
no_later first from i size positive le =
    let split : (i + 1) * size ≡ i * size + 1 * size = add-mul i 1 size in
    let below : (from - first) / size < i + 1 =
    div_below (from - first) size (i + 1) positive (omega (arith, le, split, positive)) in
    omega (arith, below)

-- ---- chart behind chart

abbrev HaveKinds : Role → (Prefix → UnitValue) → List PoolTree → ℕ → ℕ → Type 0
HaveKinds role units cs low high = AllWithin (HasKinds role units) cs low high

pub pools_stay : (cs : List PoolTree) (n : ℕ) (x d : PoolTree) → d.pool ≡ (get_or cs n x).pool
    → pools_of (set cs n d) ≡ pools_of cs
pools_stay cs n x d same = map-set_same (λ (c : PoolTree). c.pool) cs n d x same

pub kinds_on : (role : Role) (units more : Prefix → UnitValue) (cs : List PoolTree) (n : ℕ) (c d : PoolTree)
    → n < length cs
    → (HasKinds role units (get_or cs n c) → HasKinds role more d) → HaveKinds role more cs 0 n
    → HaveKinds role units cs n (length cs)
    → HaveKinds role more (set cs n d) 0 (n + 1) × HaveKinds role units (set cs n d) (n + 1) (length (set cs n d))
kinds_on role units more cs n c d lt step done left = (
  AllWithin-more_set cs n d lt (HasKinds role more) done (step (left n c (omega arith) lt)),
  λ k x le below. subst (HasKinds role units) (sym (get_or-set_other cs n k d x (λ e. absurd (omega (arith, e, le)))))
      (left k x (omega (arith, le)) (omega (arith, below, length-set cs n d))),
)

pub charts_push : (pools : List Pool) (i : ℕ) (pool : Pool) (cs : List PoolTree) (c : PoolTree) → i < length pools
    → pool ≡ get_or pools i pool → c.pool ≡ pool → pools_of cs ≡ take i pools
    → pools_of (cs ++ c ∷ []) ≡ take (i + 1) pools
charts_push pools i pool cs c lt is same so =
    let longer : take (i + 1) pools ≡ take i pools ++ pool ∷ [] =
    rw (add-one, take-suc pools i pool lt) (ap (λ (k : Pool). take i pools ++ k ∷ []) (sym is)) in
    map-append (λ (x : PoolTree). x.pool) cs (c ∷ [])
    ∙ (ap₂ (λ (xs : List Pool) (x : Pool). xs ++ x ∷ []) so same ∙ sym longer)

-- what was lent whole is there whole
pub lent_whole : (xs items : List PoolTree) (n : ℕ) → length xs ≡ n → take n (xs ++ drop (length xs) items) ≡ xs
lent_whole xs items n is = ap (λ (k : ℕ). take k (xs ++ drop (length xs) items)) (sym is)
    ∙ (take-append-le (length xs) xs (drop (length xs) items) (omega arith) ∙ take_all (length xs) xs (omega arith))
