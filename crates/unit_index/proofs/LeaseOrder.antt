-- Which units each client has, in their order.
use Rattle.std.proofs.Common.{◌≡◌, ℕ, ◌≤◌, ◌⊎◌, Bool, true, false, cond, List, [], ◌∷◌, ap, sym, ◌∙◌, subst, refl, inl}
use Rattle.std.proofs.Common.{inr, arith, Some, slice_get}
use Rattle.std.specs.Prelude.{IsTrue, IfSome, ⊤}
use Rattle.std.specs.declared.cmp.Ordering.{Ordering}
use Rattle.std.specs.declared.cmp.Ordering.TheVariants.{Less, Equal, Greater}
use Rattle.std.specs.declared.ops.Bound.TheVariants.{Included, Unbounded}
use Rattle.std.specs.BTreeSet.{BTreeSet, contains, IsKeyRangeOf}
use Rattle.std.specs.BTreeMap.Range.{IsLeBy}
use Rattle.std.specs.Ordering.{nat_cmp, ordering_then, is_eq, is_gt, ordering_reverse}
use Rattle.std.specs.Cmp.Lexicographic.{slice_cmp}
use Rattle.std.proofs.lemmas.Cmp.{tied_itself}
use Rattle.std.proofs.lemmas.Bool.Decides.{nat_tests}
use Rattle.prefix_range.specs.Prefix.{Prefix}
use Rattle.book_state.proofs.Orders.{same_octets}
use Rattle.unit_index.specs.declared.leasing.LeaseKey.{LeaseKey}
use Rattle.unit_index.specs.Units.{IsLeastOf}
use Rattle.unit_index.specs.Leases.{by_lease, by_prefix, leased_cmp, lease_total, leased, HasLease}
use Rattle.unit_index.proofs.Ties.{first_ties, then_ties, same_number, one_prefix, ties}

-- ---- the order

not_past_first : (a b : Ordering) → is_gt (ordering_then a b) ≡ false → is_gt a ≡ false
not_past_first Less b e = refl
not_past_first Equal b e = refl
not_past_first Greater b e = absurd (cc)

then_not_past : (a b : Ordering) → a ≡ Equal → is_gt (ordering_then a b) ≡ false → is_gt b ≡ false
then_not_past Less b tie e = absurd (cc)
then_not_past Equal b tie e = e
then_not_past Greater b tie e = absurd (cc)

not_greater : (x y : ℕ) → is_gt (nat_cmp x y) ≡ false → x ≤ y
not_greater x y e = grind (arith, nat_tests)

-- what is not past another in either direction ties with it
between : (o : Ordering) → is_gt o ≡ false → is_gt (ordering_reverse o) ≡ false → o ≡ Equal
between Less e f = absurd (cc)
between Equal e f = refl
between Greater e f = absurd (cc)

a_lease : ℕ → List ℕ → Prefix → LeaseKey
a_lease i c p = record { iaid = i; client = c; prefix = p }

parts : (k h : LeaseKey) → k.iaid ≡ h.iaid → k.client ≡ h.client → k.prefix ≡ h.prefix → k ≡ h
unfolding a_lease
parts k h i c p = ap (λ (x : ℕ). a_lease x k.client k.prefix) i
    ∙ (ap (λ (x : List ℕ). a_lease h.iaid x k.prefix) c ∙ ap (λ (x : Prefix). a_lease h.iaid h.client x) p)

pub same_lease : (k h : LeaseKey) → by_lease k h ≡ Equal → (k.iaid ≡ h.iaid) × (k.client ≡ h.client)
same_lease k h e =
    let i = nat_cmp k.iaid h.iaid in
    let c = slice_cmp nat_cmp k.client h.client in
    (same_number k.iaid h.iaid (first_ties i c e), same_octets k.client h.client (then_ties i c e))

pub same_leased : (k h : LeaseKey) → leased_cmp k h ≡ Equal → k ≡ h
same_leased k h e =
    let a = nat_cmp k.prefix.address h.prefix.address in
    let n = nat_cmp k.prefix.length h.prefix.length in
    let lease = same_lease k h (first_ties (by_lease k h) (by_prefix k h) e) in
    let place : by_prefix k h ≡ Equal = then_ties (by_lease k h) (by_prefix k h) e in
    parts k h lease.0 lease.1 (one_prefix k.prefix h.prefix
    (same_number k.prefix.address h.prefix.address (first_ties a n place))
    (same_number k.prefix.length h.prefix.length (then_ties a n place)))

-- ---- the first of a range

abbrev pub first_prefix : Prefix
first_prefix = record { address = 0; length = 0 }

-- nothing that a client has under an identity association stands before the first prefix
from_first : (client : List ℕ) (iaid : ℕ) (p : Prefix)
    → is_gt (leased_cmp (leased client iaid first_prefix) (leased client iaid p)) ≡ false
from_first client iaid p =
    let tied = tied_itself lease_total (leased client iaid p) in
    let low : is_gt (by_prefix (leased client iaid first_prefix) (leased client iaid p)) ≡ false =
    grind (arith, nat_tests) in
    ap (λ (o : Ordering). is_gt (ordering_then o (by_prefix (leased client iaid first_prefix) (leased client iaid p))))
    tied ∙ low

-- what stands between two leases of one kind is one of that kind
kind_between : (client : List ℕ) (iaid : ℕ) (p q : Prefix) (h : LeaseKey) → IsLeBy leased_cmp (leased client iaid p) h
    → IsLeBy leased_cmp h (leased client iaid q) → (iaid ≡ h.iaid) × (client ≡ h.client)
kind_between client iaid p q h low high =
    let a = not_past_first (by_lease (leased client iaid p) h) (by_prefix (leased client iaid p) h) low in
    let b = not_past_first (by_lease h (leased client iaid q)) (by_prefix h (leased client iaid q)) high in
    let turned : by_lease h (leased client iaid p) ≡ ordering_reverse (by_lease (leased client iaid p) h) =
    lease_total.antisymm h (leased client iaid p) in
    same_lease (leased client iaid p) h (between (by_lease (leased client iaid p) h) a (ap is_gt (sym turned) ∙ b))

abbrev pub IsFrom : List ℕ → ℕ → BTreeSet LeaseKey → List LeaseKey → Type 0
IsFrom client iaid s r = IsKeyRangeOf leased_cmp (Included (leased client iaid first_prefix)) Unbounded s r

pub none_leased : (s : BTreeSet LeaseKey) (client : List ℕ) (iaid : ℕ) (r : List LeaseKey) → IsFrom client iaid s r
    → r ≡ [] → (p : Prefix) → HasLease s (leased client iaid p) → ⊥
none_leased s client iaid r range none p has =
    let no = range.5 none (leased client iaid p) (from_first client iaid p, tt) in
    absurd (cc)

first_before : (s : BTreeSet LeaseKey) (client : List ℕ) (iaid : ℕ) (r t : List LeaseKey) (h : LeaseKey)
    → IsFrom client iaid s r → r ≡ h ∷ t → (p : Prefix) → HasLease s (leased client iaid p)
    → IsLeBy leased_cmp h (leased client iaid p)
first_before s client iaid r t h range is p has =
    subst (λ (xs : List LeaseKey). IfSome (slice_get xs 0) (λ k. IsLeBy leased_cmp k (leased client iaid p))) is
    (range.2 (leased client iaid p) (from_first client iaid p, tt) has)

first_in : (s : BTreeSet LeaseKey) (client : List ℕ) (iaid : ℕ) (r t : List LeaseKey) (h : LeaseKey) → IsFrom client iaid s r
    → r ≡ h ∷ t → IsLeBy leased_cmp (leased client iaid first_prefix) h × HasLease s h
first_in s client iaid r t h range is =
    let k = subst (λ (xs : List LeaseKey). IfSome (slice_get xs 0)
    (λ k. (IsLeBy leased_cmp (leased client iaid first_prefix) k × ⊤) × IsTrue (contains leased_cmp s k))) is
    range.1 in
    (k.0.0, k.1)

pub other_leased : (s : BTreeSet LeaseKey) (client : List ℕ) (iaid : ℕ) (r t : List LeaseKey) (h : LeaseKey)
    → IsFrom client iaid s r → r ≡ h ∷ t → (iaid ≡ h.iaid → client ≡ h.client → ⊥) → (p : Prefix)
    → HasLease s (leased client iaid p) → ⊥
other_leased s client iaid r t h range is apart p has =
    let kind = kind_between client iaid first_prefix p h (first_in s client iaid r t h range is).0
    (first_before s client iaid r t h range is p has) in
    apart kind.0 kind.1

pub lowest_leased : (s : BTreeSet LeaseKey) (client : List ℕ) (iaid : ℕ) (r t : List LeaseKey) (h : LeaseKey)
    → IsFrom client iaid s r → r ≡ h ∷ t → iaid ≡ h.iaid → client ≡ h.client
    → IsLeastOf (λ p. HasLease s (leased client iaid p)) (Some h.prefix)
lowest_leased s client iaid r t h range is i c = (
  subst (HasLease s) (parts h (leased client iaid h.prefix) (sym i) (sym c) refl) (first_in s client iaid r t h range is).1,
  λ q has. (
      let low = first_before s client iaid r t h range is q has in
      let tie : by_lease h (leased client iaid q) ≡ Equal =
      subst (λ (k : LeaseKey). by_lease k (leased client iaid q) ≡ Equal)
      (parts (leased client iaid h.prefix) h i c refl) (tied_itself lease_total (leased client iaid q)) in
      let place = then_not_past (by_lease h (leased client iaid q)) (by_prefix h (leased client iaid q)) tie low in
      not_greater h.prefix.address q.address (not_past_first (nat_cmp h.prefix.address q.address)
      (nat_cmp h.prefix.length q.length) place)),
)

-- ---- one key more, or less

pub inserted_only : (s n : BTreeSet LeaseKey) (k h : LeaseKey) → contains leased_cmp n h
    ≡ cond (is_eq (leased_cmp k h)) true (contains leased_cmp s h) → HasLease n h → HasLease s h ⊎ (k ≡ h)
inserted_only s n k h is has = by_test (is_eq (leased_cmp k h)) refl where
  by_test : (t : Bool) → is_eq (leased_cmp k h) ≡ t → HasLease s h ⊎ (k ≡ h)
  by_test true e = inr (same_leased k h (ties (leased_cmp k h) e))
  by_test false e = inl (ap (λ (t : Bool). cond t true (contains leased_cmp s h)) (sym e) ∙ (sym is ∙ has))

pub removed_kept : (s n : BTreeSet LeaseKey) (k h : LeaseKey) → contains leased_cmp n h
    ≡ cond (is_eq (leased_cmp k h)) false (contains leased_cmp s h) → (k ≡ h → ⊥) → HasLease s h → HasLease n h
removed_kept s n k h is apart has = by_test (is_eq (leased_cmp k h)) refl where
  by_test : (t : Bool) → is_eq (leased_cmp k h) ≡ t → HasLease n h
  by_test true e = absurd (apart (same_leased k h (ties (leased_cmp k h) e)))
  by_test false e = is ∙ (ap (λ (t : Bool). cond t false (contains leased_cmp s h)) e ∙ has)
