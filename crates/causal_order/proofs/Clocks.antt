-- Lines that a chain or clocks order.
use Rattle.std.specs.Prelude.{◌≡◌, ℕ, ◌+◌, ◌<◌, ◌≤◌, Bool, true, false, ◌↔◌, IsTrue, List, length, Option, Some, None}
use Rattle.std.specs.Prelude.{ℤ, pos, ◌+ℤ◌, ◌<ℤ◌}
use Rattle.std.proofs.Common.{sym, ◌∙◌, subst, arith}
use Rattle.std.proofs.lemmas.Int.{ints}
use Rattle.causal_order.specs.declared.reference.Ref.{Ref}
use Rattle.causal_order.specs.declared.order.Precedes.TheVariants.{Clock}
use Rattle.causal_order.specs.Journals.{Journals}
use Rattle.causal_order.specs.Order.{Leads, WrittenBy, WrittenFrom, IsSurelyBefore}
use Rattle.causal_order.specs.Tests.{first_of_chain, last_of_chain, is_at, leads}
use Rattle.causal_order.specs.Bounds.{IsLatest, IsEarliest, IsEarlier}
use Rattle.causal_order.proofs.Deciding.{decides_at, decides_leads}
use Rattle.causal_order.proofs.Walking.{first_from, last_from, one_latest, one_earliest}

-- By a chain.
pub long_leads : (js : Journals) (chain : List Ref) (r s : Ref) (b : Bool) → b ≡ leads js chain r s → 2 ≤ length chain
    → IsTrue b ↔ (Leads js chain r s × (2 ≤ length chain))
long_leads js chain r s b e n = let d = decides_leads js chain r s in (λ h. (d.0 (sym e ∙ h), n), λ h. e ∙ d.1 h.0)

-- By clocks.
bounds_apart : (m n : ℤ) (x y skew : ℕ) → m ≡ pos (x + skew) → n +ℤ pos skew ≡ pos y → m <ℤ n → x + skew + skew < y
bounds_apart m n x y skew e f h = omega (arith, ints)

apart_bounds : (m n : ℤ) (x y skew : ℕ) → m ≡ pos (x + skew) → n +ℤ pos skew ≡ pos y → x + skew + skew < y → m <ℤ n
apart_bounds m n x y skew e f h = omega (arith, ints)

begins_at : (js : Journals) (chain : List Ref) (r s : Ref) (x : ℕ) → WrittenBy js chain s x
    → first_of_chain chain ≡ Some r → WrittenBy js chain r x
begins_at js chain r s x w e = let f = first_from js chain s x w in let same : s ≡ r = cc in
    subst (λ t. WrittenBy js chain t x) same w

ends_at : (js : Journals) (chain : List Ref) (r s : Ref) (x : ℕ) → WrittenFrom js chain s x
    → last_of_chain chain ≡ Some r → WrittenFrom js chain r x
ends_at js chain r s x w e = let f = last_from js chain s x w in let same : s ≡ r = cc in
    subst (λ t. WrittenFrom js chain t x) same w

apart_is : (js : Journals) (one two : List Ref) (r s : Ref) (skew : ℕ) (a b : Option ℤ) → IsLatest js one skew a
    → IsEarliest js two skew b
    → first_of_chain one ≡ Some r → last_of_chain two ≡ Some s → IsEarlier a b
    → IsSurelyBefore js skew (Clock one two) r s
apart_is js one two r s skew (Some m) (Some n) k l e f h = (
  k.1,
  l.1,
  begins_at js one r k.0 k.1 k.2 e,
  ends_at js two s l.0 l.1 l.2 f,
  bounds_apart m n k.1 l.1 skew k.3 l.3 h,
)
apart_is js one two r s skew (Some m) None k l e f h = absurd h
apart_is js one two r s skew None b k l e f h = absurd h

is_apart : (js : Journals) (one two : List Ref) (r s : Ref) (skew : ℕ) (a b : Option ℤ) → IsLatest js one skew a
    → IsEarliest js two skew b
    → IsSurelyBefore js skew (Clock one two) r s → IsEarlier a b
is_apart js one two r s skew (Some m) (Some n) k l h =
    let x = one_latest js one k.0 r k.1 h.0 k.2 h.2 in
    let y = one_earliest js two l.0 s l.1 h.1 l.2 h.3 in
    apart_bounds m n k.1 l.1 skew k.3 l.3 (let z = h.4 in omega arith)
is_apart js one two r s skew (Some m) None k l h = absurd (l h.3.leads.links)
is_apart js one two r s skew None b k l h = absurd (k h.2.leads.links)

pub clock_decided : (js : Journals) (one two : List Ref) (r s : Ref) (skew : ℕ) (a b : Option ℤ) (t : Bool)
    → IsLatest js one skew a → IsEarliest js two skew b
    → true ≡ is_at (first_of_chain one) r → true ≡ is_at (last_of_chain two) s → (IsTrue t ↔ IsEarlier a b) → IsTrue t
    ↔ IsSurelyBefore js skew (Clock one two) r s
clock_decided js one two r s skew a b t k l e f h = (
  λ i. apart_is js one two r s skew a b k l ((decides_at (first_of_chain one) r).0 (sym e))
      ((decides_at (last_of_chain two) s).0 (sym f)) (h.0 i),
  λ i. h.1 (is_apart js one two r s skew a b k l i),
)

pub other_begin : (js : Journals) (one two : List Ref) (r s : Ref) (skew : ℕ) → false ≡ is_at (first_of_chain one) r
    → IsSurelyBefore js skew (Clock one two) r s → ⊥
other_begin js one two r s skew e h = let t = (decides_at (first_of_chain one) r).1 (first_from js one r h.0 h.2) in cc

pub other_end : (js : Journals) (one two : List Ref) (r s : Ref) (skew : ℕ) → false ≡ is_at (last_of_chain two) s
    → IsSurelyBefore js skew (Clock one two) r s → ⊥
other_end js one two r s skew e h = let t = (decides_at (last_of_chain two) s).1 (last_from js two s h.1 h.3) in cc
