-- Each unit has one place, and a pool behind the others leaves theirs.
use Rattle.std.specs.Prelude.{if◌then◌else◌, suc}
use Rattle.std.proofs.Common.{◌≡◌, ℕ, ◌+◌, ◌%◌, ◌<◌, ◌≤◌, ◌||◌, ◌⊎◌, Bool, true, false, List, [], ◌∷◌, ◌++◌, length, ap}
use Rattle.std.proofs.Common.{sym, ◌∙◌, arith, inl, inr, refl, Some, None, drop, get_or, drop-cons, add-one}
use Rattle.std.specs.Prelude.{All, IsSome}
use Rattle.std.specs.Option.{is_some}
use Rattle.std.specs.List.{sum_by}
use Rattle.std.proofs.lemmas.List.{drop_all}
use Rattle.std.proofs.lemmas.List.Sums.{sum_by-cons}
use Rattle.std.proofs.lemmas.List.Elements.{All-head, All-tail, All-cons, All-nil}
use Rattle.prefix_range.specs.Prefix.{Prefix, size_of}
use Rattle.book_state.specs.declared.pool.Pool.{Pool}
use Rattle.book_state.specs.Book.{is_in, is_unit, units_in}
use Rattle.book_state.specs.Places.{IsPool, index_in, place_on}
use Rattle.book_state.proofs.Ranges.{within, index_below, one_index}

-- a place is at or past where the count began, and before its end
pub record IsPlace (n : ℕ) (pools : List Pool) (i : ℕ) : Type 0 where
  pub from : n ≤ i
  pub below : i < n + sum_by units_in pools

pub place_within : (n : ℕ) (pools : List Pool) (p : Prefix) (i : ℕ) → All IsPool pools → place_on n pools p ≡ Some i
    → IsPlace n pools i
unfolding place_on
place_within n [] p i h e = absurd cc
place_within n (pool ∷ pools) p i h e =
    found (place_within (n + units_in pool) pools p i (All-tail IsPool pool pools h)) (is_in pool p) refl e where
      found : (place_on (n + units_in pool) pools p ≡ Some i → IsPlace (n + units_in pool) pools i) → (b : Bool)
          → is_in pool p ≡ b
          → (if b then Some (n + index_in pool p) else place_on (n + units_in pool) pools p) ≡ Some i
          → IsPlace n (pool ∷ pools) i
      found more true is e =
          let below = index_below pool p (All-head IsPool pool pools h) (within pool p is) in
          let same : n + index_in pool p ≡ i = cc in
          record { from = omega (arith, same); below = omega (arith, same, below, sum_by-cons units_in pool pools) }
      found more false is e =
          let rest = more e in
          record { from = omega (arith, rest.from); below = omega (arith, rest.below, sum_by-cons units_in pool pools) }

-- the prefix is a unit exactly where it has a place
pub has_place : (n : ℕ) (pools : List Pool) (p : Prefix) → is_unit pools p ≡ true → IsSome (place_on n pools p)
unfolding place_on
has_place n [] p e = absurd cc
has_place n (pool ∷ pools) p e = found (has_place (n + units_in pool) pools p) (is_in pool p) e where
  found : (is_unit pools p ≡ true → IsSome (place_on (n + units_in pool) pools p)) → (b : Bool)
      → (b || is_unit pools p) ≡ true
      → IsSome (if b then Some (n + index_in pool p) else place_on (n + units_in pool) pools p)
  found more true e = refl
  found more false e = more e

pub is_placed : (n : ℕ) (pools : List Pool) (p : Prefix) (i : ℕ) → place_on n pools p ≡ Some i → is_unit pools p ≡ true
unfolding place_on
is_placed n [] p i e = absurd cc
is_placed n (pool ∷ pools) p i e = found (is_placed (n + units_in pool) pools p i) (is_in pool p) e where
  found : (place_on (n + units_in pool) pools p ≡ Some i → is_unit pools p ≡ true) → (b : Bool)
      → (if b then Some (n + index_in pool p) else place_on (n + units_in pool) pools p) ≡ Some i
      → (b || is_unit pools p) ≡ true
  found more true e = refl
  found more false e = more e

-- units at one place are one
pub one_place : (n : ℕ) (pools : List Pool) (p q : Prefix) (i : ℕ) → All IsPool pools
    → p.address % size_of p.length ≡ 0 → q.address % size_of q.length ≡ 0
    → place_on n pools p ≡ Some i → place_on n pools q ≡ Some i → p ≡ q
unfolding place_on
one_place n [] p q i h rp rq x y = absurd cc
one_place n (pool ∷ pools) p q i h rp rq x y =
    found (one_place (n + units_in pool) pools p q i (All-tail IsPool pool pools h) rp rq) (is_in pool p)
    (is_in pool q) refl refl x y where
      found : (place_on (n + units_in pool) pools p ≡ Some i → place_on (n + units_in pool) pools q ≡ Some i → p ≡ q)
          → (b c : Bool) → is_in pool p ≡ b → is_in pool q ≡ c
          → (if b then Some (n + index_in pool p) else place_on (n + units_in pool) pools p) ≡ Some i
          → (if c then Some (n + index_in pool q) else place_on (n + units_in pool) pools q) ≡ Some i → p ≡ q
      found more true true ip iq x y =
          let ex : n + index_in pool p ≡ i = cc in
          let ey : n + index_in pool q ≡ i = cc in
          let same : index_in pool p ≡ index_in pool q = omega (arith, ex, ey) in
          one_index pool p q (All-head IsPool pool pools h) (within pool p ip) (within pool q iq) rp rq same
      found more true false ip iq x y =
          let ex : n + index_in pool p ≡ i = cc in
          let below = index_below pool p (All-head IsPool pool pools h) (within pool p ip) in
          let other = place_within (n + units_in pool) pools q i (All-tail IsPool pool pools h) y in
          absurd (omega (arith, ex, below, other.from))
      found more false true ip iq x y =
          let ey : n + index_in pool q ≡ i = cc in
          let below = index_below pool q (All-head IsPool pool pools h) (within pool q iq) in
          let other = place_within (n + units_in pool) pools p i (All-tail IsPool pool pools h) x in
          absurd (omega (arith, ey, below, other.from))
      found more false false ip iq x y = more x y

-- a pool behind the others leaves their places; what it has is behind theirs
pub pushed_place : (n : ℕ) (pools : List Pool) (more : Pool) (p : Prefix) → IsPool more
    → (place_on n (pools ++ more ∷ []) p ≡ place_on n pools p)
    ⊎ ((place_on n pools p ≡ None) × ((i : ℕ) → place_on n (pools ++ more ∷ []) p ≡ Some i
    → n + sum_by units_in pools ≤ i))
unfolding place_on
pushed_place n [] more p h = inr (
  refl,
  λ i e. (let at = place_within n (more ∷ []) p i (All-cons IsPool more [] h (All-nil IsPool)) e in
      omega (arith, at.from)),
)
pushed_place n (pool ∷ pools) more p h = found (is_in pool p) (pushed_place (n + units_in pool) pools more p h) where
  found : (b : Bool)
      → (place_on (n + units_in pool) (pools ++ more ∷ []) p ≡ place_on (n + units_in pool) pools p)
      ⊎ ((place_on (n + units_in pool) pools p ≡ None) × ((i : ℕ)
      → place_on (n + units_in pool) (pools ++ more ∷ []) p ≡ Some i
      → n + units_in pool + sum_by units_in pools ≤ i))
      → ((if b then Some (n + index_in pool p) else place_on (n + units_in pool) (pools ++ more ∷ []) p)
      ≡ (if b then Some (n + index_in pool p) else place_on (n + units_in pool) pools p))
      ⊎ (((if b then Some (n + index_in pool p) else place_on (n + units_in pool) pools p) ≡ None)
      × ((i : ℕ) → (if b then Some (n + index_in pool p) else place_on (n + units_in pool) (pools ++ more ∷ []) p)
      ≡ Some i → n + sum_by units_in (pool ∷ pools) ≤ i))
  found true rest = inl refl
  found false (inl e) = inl e
  found false (inr x) = inr (x.0, λ i e. (let le = x.1 i e in omega (arith, le, sum_by-cons units_in pool pools)))

-- of the pools so many are walked past, without the prefix in any
pub record IsWalked (pools : List Pool) (p : Prefix) (i offset : ℕ) : Type 0 where
  pub place : place_on offset (drop i pools) p ≡ place_on 0 pools p
  pub rest : offset + sum_by units_in (drop i pools) ≡ sum_by units_in pools

pub walked_none : (pools : List Pool) (p : Prefix) → IsWalked pools p 0 0
walked_none pools p = record { place = refl; rest = omega arith }

next : (pools : List Pool) (i : ℕ) (pool : Pool) → i < length pools → pool ≡ get_or pools i pool
    → drop i pools ≡ pool ∷ drop (i + 1) pools
next pools i pool lt is = rw (add-one, drop-cons pools i pool) (ap (λ (q : Pool). q ∷ drop (suc i) pools) (sym is))

pub walked_past : (pools : List Pool) (p : Prefix) (i offset : ℕ) (pool : Pool) → i < length pools
    → pool ≡ get_or pools i pool → IsWalked pools p i offset
    → is_in pool p ≡ false → IsWalked pools p (i + 1) (offset + units_in pool)
unfolding place_on
walked_past pools p i offset pool lt is w out =
    let cut = next pools i pool lt is in
    let step : place_on offset (pool ∷ drop (i + 1) pools) p ≡ place_on (offset + units_in pool)
    (drop (i + 1) pools) p = rw out refl in
    let sum = ap (sum_by units_in) cut in
    record {
      place = sym step ∙ (sym (ap (λ (ps : List Pool). place_on offset ps p) cut) ∙ w.place);
      rest = omega (arith, sum, w.rest, sum_by-cons units_in pool (drop (i + 1) pools));
    }

pub walked_to : (pools : List Pool) (p : Prefix) (i offset : ℕ) (pool : Pool) → i < length pools
    → pool ≡ get_or pools i pool → IsWalked pools p i offset
    → is_in pool p ≡ true → Some (offset + index_in pool p) ≡ place_on 0 pools p
unfolding place_on
walked_to pools p i offset pool lt is w within =
    let cut = next pools i pool lt is in
    let here : place_on offset (pool ∷ drop (i + 1) pools) p ≡ Some (offset + index_in pool p) = rw within refl in
    sym here ∙ (sym (ap (λ (ps : List Pool). place_on offset ps p) cut) ∙ w.place)

pub walked_all : (pools : List Pool) (p : Prefix) (i offset : ℕ) → length pools ≤ i → IsWalked pools p i offset
    → None ≡ place_on 0 pools p
unfolding place_on
walked_all pools p i offset le w = rw (drop_all i pools le) at w.place

-- what is walked past, and one pool more, are no more units than all
pub walked_few : (pools : List Pool) (p : Prefix) (i offset : ℕ) (pool : Pool) → i < length pools
    → pool ≡ get_or pools i pool → IsWalked pools p i offset
    → offset + units_in pool ≤ sum_by units_in pools
walked_few pools p i offset pool lt is w =
    let sum = ap (sum_by units_in) (next pools i pool lt is) in
    omega (arith, sum, w.rest, sum_by-cons units_in pool (drop (i + 1) pools))

pub no_place : (n : ℕ) (pools : List Pool) (p : Prefix) → place_on n pools p ≡ None → is_unit pools p ≡ false
no_place n pools p e = by_test (is_unit pools p) refl where
  by_test : (b : Bool) → is_unit pools p ≡ b → b ≡ false
  by_test false is = refl
  by_test true is = (let some : is_some (place_on n pools p) ≡ true = has_place n pools p is in
      let none : is_some {T = ℕ} None ≡ true = sym (ap is_some e) ∙ some in absurd cc)
