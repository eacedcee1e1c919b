-- The tests decide their relations.
use Rattle.std.specs.Prelude.{◌≡◌, ℕ, ◌+◌, ◌-◌, ◌*◌, ◌/◌, ◌^◌, ◌<◌, ◌≤◌, ◌⊎◌, min, max, Bool, true, ◌&&◌, ◌||◌, ◌==◌}
use Rattle.std.specs.Prelude.{List, [], ◌∷◌, length, Option, Some, None, All, Contains as Has, slice_index_or}
use Rattle.std.specs.Bool.{Decides}
use Rattle.std.specs.List.{list_any, list_all}
use Rattle.std.proofs.Common.{zero, suc, arith, sym, ◌∙◌, ap, subst, inl, inr, refl}
use Rattle.std.proofs.lemmas.Bool.{cases_lt}
use Rattle.std.proofs.lemmas.Bool.Decides.{Decides-eqb, Decides-and, Decides-or, Decides-not, Decides-like}
use Rattle.std.proofs.lemmas.Slice.Eq.{bytes_eq-Decides}
use Rattle.std.proofs.lemmas.Nat.{pow_pos}
use Rattle.std.proofs.Math.Nat.{add-mul, one-mul, div-mul-le_self, lt-div-mul-add, div-eq_of_lt-le}
use Rattle.prefix_range.specs.Prefix.{Prefix, size_of, Contains, Overlaps}
use Rattle.journal_lines.specs.declared.event.Event.{Event}
use Rattle.journal_lines.specs.declared.event.Event.TheVariants.{Grant, Release, Close}
use Rattle.journal_lines.specs.declared.event.Lease.{Lease}
use Rattle.journal_lines.specs.declared.line.Line.{Line}
use Rattle.binding_rules.specs.declared.role.Role.{Role}
use Rattle.binding_rules.specs.declared.role.Role.TheVariants.{Primary, Secondary}
use Rattle.binding_rules.specs.Role.{partner_of}
use Rattle.causal_order.specs.declared.reference.Ref.{Ref}
use Rattle.causal_order.specs.Journals.{Journals, volume_of, open_of, line_of}
use Rattle.causal_order.specs.Order.{WrittenFrom}
use Rattle.causal_order.proofs.Sameness.{decides_prefix}
use Rattle.causal_order.proofs.Deciding.{decides_le, decides_lt, decides_side, decides_ref, line_names, names_line}
use Rattle.causal_order.proofs.Deciding.{decides_line, decides_written_from, decides_precedes}
use Rattle.causal_order.specs.declared.certificate.Certificate.{Certificate}
use Rattle.causal_order.specs.declared.certificate.Piece.{Piece}
use Rattle.causal_order.specs.declared.certificate.ClearReason.{ClearReason}
use Rattle.causal_order.specs.declared.certificate.ClearReason.TheVariants.{Before, After}
use Rattle.journal_lines.specs.Close.{is_close}
use Rattle.attribution.specs.declared.delegation.Delegation.{Delegation}
use Rattle.attribution.specs.declared.delegation.Lasting.{Lasting}
use Rattle.attribution.specs.declared.delegation.Lasting.TheVariants.{For, Until}
use Rattle.attribution.specs.Run.{infinity}
use Rattle.attribution.specs.Acceptance.{Grants, Tells, IsCleared, Discharges, HasEarlier, IsAfterOpen}
use Rattle.attribution.specs.Acceptance.{IsGrantedAfterOpen, IsPastPartner, IsPastOpen, EndsBy, IsNamed}
use Rattle.attribution.specs.Tests.{granted_by, granted_at, lease_of, told_at, delegation_of, is_release_of, first_of}
use Rattle.attribution.specs.Tests.{past_of, contains, overlaps, is_cleared, discharges, is_after_open}
use Rattle.attribution.specs.Tests.{is_granted_after_open, if_earlier, is_past_partner, is_past_open, ends_by, is_named}

-- some item
pub has_cases : {X : Type 0} (x y : X) (xs : List X) (k : ℕ) → k < length (x ∷ xs) → slice_index_or (x ∷ xs) k y ≡ y
    → (x ≡ y) ⊎ Has xs y
has_cases x y xs zero lt e = inl e
has_cases x y xs (suc k) lt e = inr (k, omega arith, e)

pub decides_any : {X : Type 0} (test : X → Bool) (P : X → Type 0) → ((x : X) → Decides (test x) (P x)) → (xs : List X)
    → Decides (list_any test xs) ((x : X) × Has xs x × P x)
decides_any test P each [] = (λ h. cc, λ h. let l = h.1.1 in absurd (omega arith))
decides_any test P each (x ∷ xs) = Decides-like (test x || list_any test xs)
    (λ h. elim h [
      | inl p ↦ (x, (0, omega arith, refl), p)
      | inr r ↦
          (r.0, (suc r.1.0, (let l = r.1.1 in omega arith), r.1.2), r.2)
    ])
    (λ h. elim (has_cases x h.0 xs h.1.0 h.1.1 h.1.2) [ inl e ↦ inl (subst P (sym e) h.2) | inr r ↦ inr (h.0, r, h.2) ])
    (Decides-or (test x) (list_any test xs) (each x) (decides_any test P each xs))

granted_is : (e : Event) (g : Lease) → granted_by e ≡ Some g → e ≡ Grant g
granted_is (Grant x) g h = cc
granted_is _ g h = cc

granted_at_is : (js : Journals) (r : Ref) (g : Lease) (o : Option Line) → line_of js r ≡ o → granted_at o ≡ Some g
    → Grants js r g
granted_at_is js r g None e h = cc
granted_at_is js r g (Some l) e h = (l, line_names js r l e, granted_is l.event g h)

pub lease_grants : (js : Journals) (r : Ref) (g : Lease) → lease_of js r ≡ Some g → Grants js r g
lease_grants js r g h = granted_at_is js r g (line_of js r) refl h

pub grants_lease : (js : Journals) (r : Ref) (g : Lease) → Grants js r g → lease_of js r ≡ Some g
grants_lease js r g h = ap granted_at (names_line js r h.0 h.1) ∙ ap granted_by h.2

told_at_is : (js : Journals) (r : Ref) (d : Delegation) (o : Option Line) → line_of js r ≡ o → told_at o ≡ Some d
    → Tells js r d
told_at_is js r d None e h = cc
told_at_is js r d (Some l) e h = (l, line_names js r l e, h)

pub told_tells : (js : Journals) (r : Ref) (d : Delegation) → delegation_of js r ≡ Some d → Tells js r d
told_tells js r d h = told_at_is js r d (line_of js r) refl h

pub tells_told : (js : Journals) (r : Ref) (d : Delegation) → Tells js r d → delegation_of js r ≡ Some d
tells_told js r d h = ap told_at (names_line js r h.0 h.1) ∙ h.2

release_is : (d : Delegation) (client : List ℕ) (iaid : ℕ) (p : Prefix) → client ≡ d.client → iaid ≡ d.iaid
    → p ≡ d.prefix → Release client iaid p ≡ Release d.client d.iaid d.prefix
release_is d client iaid p a b c = cc

pub decides_release : (d : Delegation) (e : Event) → Decides (is_release_of d e) (e ≡ Release d.client d.iaid d.prefix)
decides_release d (Release client iaid p) = Decides-like (is_release_of d (Release client iaid p))
    (λ h. release_is d client iaid p h.0 h.1.0 h.1.1)
    (λ h. (let e = h in cc, (let e = h in cc, let e = h in cc)))
    (Decides-and _ _ (bytes_eq-Decides client d.client)
    (Decides-and _ _ (Decides-eqb iaid d.iaid) (decides_prefix p d.prefix)))
decides_release d _ = (λ h. absurd (cc), λ h. absurd (cc))

-- Prefixes.
size_positive : (n : ℕ) → 0 < size_of n
size_positive n = pow_pos (128 - n)

next_times : (k s : ℕ) → (k + 1) * s ≡ k * s + s
next_times k s = simp (add-mul, one-mul)

-- the addresses of a prefix lie from its first up to the one past its last
within_first : (p : Prefix) (a : ℕ) → a / size_of p.length ≡ p.address / size_of p.length
    → (first_of p ≤ a) × (a < past_of p)
within_first p a e =
    let s = size_of p.length in
    let x = div-mul-le_self a s in
    let y = lt-div-mul-add {a = a} {b = s} (size_positive p.length) in
    let f : a / s * s ≡ first_of p = ap (λ n. n * s) e in
    (omega arith, omega arith)

first_within : (p : Prefix) (a : ℕ) → first_of p ≤ a → a < past_of p
    → a / size_of p.length ≡ p.address / size_of p.length
first_within p a ge lt = div-eq_of_lt-le (size_of p.length) ge (let e =
    next_times (p.address / size_of p.length) (size_of p.length) in omega arith)

-- p's addresses below the limit hold q's
Holds : (limit first past low end : ℕ) → Type 0
Holds limit first past low end = (a : ℕ) → a < limit → low ≤ a → a < end → (first ≤ a) × (a < past)

holds_to : (limit first past low end : ℕ) → (limit ≤ low) ⊎ ((first ≤ low) × (min end limit ≤ past))
    → Holds limit first past low end
unfolding Holds
holds_to limit first past low end (inl h) a lt ge le = absurd (omega arith)
holds_to limit first past low end (inr h) a lt ge le = (omega arith, omega arith)

holds_from : (limit first past low end : ℕ) → low < end → Holds limit first past low end
    → (low < limit) ⊎ (limit ≤ low) → (limit ≤ low) ⊎ ((first ≤ low) × (min end limit ≤ past))
unfolding Holds
holds_from limit first past low end some h (inr le) = inl le
holds_from limit first past low end some h (inl lt) =
    let x = h low lt (omega arith) some in
    let y = h (min end limit - 1) (omega arith) (omega arith) (omega arith) in
    inr (omega arith, omega arith)

first_lt_past : (p : Prefix) → first_of p < past_of p
first_lt_past p = let s = size_positive p.length in omega arith

pub decides_contains : (p q : Prefix) → Decides (contains p q) (Contains p q)
unfolding Holds
decides_contains p q = Decides-like (contains p q)
    (λ h a there.
    let w = within_first q a there.1 in
    let x = holds_to (2 ^ 128) (first_of p) (past_of p) (first_of q) (past_of q) h a there.0 w.0 w.1 in
    (there.0, first_within p a x.0 x.1))
    (λ h. holds_from (2 ^ 128) (first_of p) (past_of p) (first_of q) (past_of q) (first_lt_past q)
    (λ a lt ge le. within_first p a (h a (lt, first_within q a ge le)).1)
    (cases_lt (first_of q) (2 ^ 128)))
    (Decides-or _ _ (decides_le (2 ^ 128) (first_of q))
    (Decides-and _ _ (decides_le (first_of p) (first_of q)) (decides_le (min (past_of q) (2 ^ 128)) (past_of p))))

meet_at : (limit f p g q : ℕ) → max f g < min (min p q) limit
    → (max f g < limit) × (f ≤ max f g) × (max f g < p) × (g ≤ max f g) × (max f g < q)
meet_at limit f p g q h = (omega arith, omega arith, omega arith, omega arith, omega arith)

meet_of : (limit f p g q a : ℕ) → a < limit → f ≤ a → a < p → g ≤ a → a < q → max f g < min (min p q) limit
meet_of limit f p g q a x b c d e = omega arith

pub decides_overlaps : (p q : Prefix) → Decides (overlaps p q) (Overlaps p q)
decides_overlaps p q = Decides-like (overlaps p q)
    (λ h.
    let m = meet_at (2 ^ 128) (first_of p) (past_of p) (first_of q) (past_of q) h in (
      max (first_of p) (first_of q),
      (m.0, first_within p (max (first_of p) (first_of q)) m.1 m.2),
      (m.0, first_within q (max (first_of p) (first_of q)) m.3 m.4),
    ))
    (λ h.
    let x = within_first p h.0 h.1.1 in
    let y = within_first q h.0 h.2.1 in
    meet_of (2 ^ 128) (first_of p) (past_of p) (first_of q) (past_of q) h.0 h.1.0 x.0 x.1 y.0 y.1)
    (decides_lt (max (first_of p) (first_of q)) (min (min (past_of p) (past_of q)) (2 ^ 128)))

-- Conditions.
pub close_is : (e : Event) → is_close e ≡ true → e ≡ Close
close_is Close h = refl
close_is _ h = cc

pub decides_close : (e : Event) → Decides (is_close e) (e ≡ Close)
decides_close e = (close_is e, λ h. ap is_close h)

pub decides_cleared : (js : Journals) (skew : ℕ) (release grant : Ref) (to : ℕ) (why : ClearReason)
    → Decides (is_cleared js skew release grant to why) (IsCleared js skew release grant to why)
decides_cleared js skew release grant to (Before order) = decides_precedes js skew order release grant
decides_cleared js skew release grant to (After chain) =
    decides_written_from js chain release _ (λ x. to + skew ≤ x) (λ x. decides_le (to + skew) x)

pub decides_discharges : (js : Journals) (skew : ℕ) (p : Piece) (r : Ref)
    → Decides (discharges js skew p r) (Discharges js skew p r)
decides_discharges js skew p r = Decides-like (discharges js skew p r) (λ h. (h.0, h.1, h.2.0, h.2.1))
    (λ h. (h.0, h.1, (h.2, h.3)))
    (decides_any _ (λ k. (k.release ≡ r) × IsCleared js skew r p.grant p.to k.why)
    (λ k. Decides-and _ _ (decides_ref k.release r) (decides_cleared js skew r p.grant p.to k.why)) p.clear)

pub decides_named : (c : Certificate) (r : Ref) → Decides (is_named c r) (IsNamed c r)
decides_named c r = decides_any _ (λ f. f.grant ≡ r) (λ f. decides_ref f.grant r) c.foreign

-- Earlier volumes.
decides_after_open : (js : Journals) (skew transit moment : ℕ) (side : Role)
    → Decides (is_after_open js skew transit moment side) (IsAfterOpen js skew transit moment side)
decides_after_open js skew transit moment side =
    decides_line js (open_of side) _ (λ l. l.reading + skew + transit ≤ moment)
    (λ l. decides_le (l.reading + skew + transit) moment)

decides_granted_after_open : (js : Journals) (skew : ℕ) (p : Piece) (side : Role)
    → Decides (is_granted_after_open js skew p side) (IsGrantedAfterOpen js skew p side)
decides_granted_after_open js skew p side =
    Decides-or _ _ (decides_any _ (λ r. r.side ≡ side) (λ r. decides_side side r.side) p.earliest)
    (decides_line js (open_of side) _ (λ l. (x : ℕ) × WrittenFrom js p.earliest p.grant x
    × (l.reading + skew + skew < x))
    (λ l. decides_written_from js p.earliest p.grant _ (λ x. l.reading + skew + skew < x)
    (λ x. decides_lt (l.reading + skew + skew) x)))

earlier_or : (js : Journals) (side : Role) → (volume_of js side ≤ 1) ⊎ HasEarlier js side
earlier_or js side = elim (cases_lt 1 (volume_of js side)) [ inl h ↦ inr h | inr h ↦ inl h ]

decides_if_earlier : (js : Journals) (side : Role) (b : Bool) (P : Type 0) → Decides b P
    → Decides (if_earlier js side b) (HasEarlier js side → P)
decides_if_earlier js side b P d = Decides-like (if_earlier js side b)
    (λ h over. elim h [ inl few ↦ absurd (omega arith) | inr p ↦ p ])
    (λ h. elim (earlier_or js side) [ inl few ↦ inl few | inr over ↦ inr (h over) ])
    (Decides-or _ _ (decides_le (volume_of js side) 1) d)

pub decides_past_partner : (js : Journals) (skew : ℕ) (p : Piece)
    → Decides (is_past_partner js skew p) (IsPastPartner js skew p)
decides_past_partner js skew p = Decides-like (is_past_partner js skew p) (λ h. record { after = h }) (λ h. h.after)
    (decides_if_earlier js (partner_of p.grant.side) _ _
    (decides_granted_after_open js skew p (partner_of p.grant.side)))

all_rest : {X : Type 0} (P : X → Type 0) (x : X) (xs : List X) → P x → All P xs → All P (x ∷ xs)
all_rest P x xs h rest zero d lt = h
all_rest P x xs h rest (suc k) d lt = rest k d (omega arith)

decides_all : {X : Type 0} (test : X → Bool) (P : X → Type 0) → ((x : X) → Decides (test x) (P x)) → (xs : List X)
    → Decides (list_all test xs) (All P xs)
decides_all test P each [] = (λ h k d lt. absurd (omega arith), λ h. refl)
decides_all test P each (x ∷ xs) = Decides-like (test x && list_all test xs) (λ h. all_rest P x xs h.0 h.1)
    (λ h. (h 0 x (omega arith), λ k d lt. h (suc k) d (omega arith)))
    (Decides-and _ _ (each x) (decides_all test P each xs))

pub decides_past_open : (js : Journals) (skew transit : ℕ) (c : Certificate)
    → Decides (is_past_open js skew transit c) (IsPastOpen js skew transit c)
decides_past_open js skew transit c = Decides-like (is_past_open js skew transit c)
    (λ h. record {
      interval = λ side. elim side as (λ x. HasEarlier js x
          → IsAfterOpen js skew transit c.from x) [ Primary ↦ h.0 | Secondary ↦ h.1.0 ];
      pieces = h.1.1;
    })
    (λ h. (h.interval Primary, (h.interval Secondary, h.pieces)))
    (Decides-and _ _ (decides_if_earlier js Primary _ _ (decides_after_open js skew transit c.from Primary))
    (Decides-and _ _ (decides_if_earlier js Secondary _ _ (decides_after_open js skew transit c.from Secondary))
    (decides_all _ (IsPastPartner js skew) (decides_past_partner js skew) c.pieces)))

-- Ends.
pub decides_ends : (skew transit x from : ℕ) (l : Lasting)
    → Decides (ends_by skew transit x from l) (EndsBy skew transit x from l)
decides_ends skew transit x from (For v) =
    Decides-and _ _ (Decides-not (v == infinity) (Decides-eqb v infinity))
    (decides_le (x + skew + transit + 1000 * v) from)
decides_ends skew transit x from (Until end) = decides_le (end + skew + transit) from
