-- Who has what at a world's moment: step by step, and as the definitions say it.
use Rattle.std.specs.Prelude.{◌≡◌, ◌⊎◌, ℕ, ◌+◌, ◌*◌, ◌<◌, ◌≤◌, Bool, true, false, ◌==◌, List, length, Some, None}
use Rattle.std.specs.Prelude.{Option, cond, [], ◌∷◌, get_or, slice_get, if◌then◌else◌, Contains as Has}
use Rattle.std.proofs.Common.{zero, suc, arith, refl, sym, ◌∙◌, ap, subst}
use Rattle.std.proofs.lemmas.Bool.{cases_lt, eq-eqb, eqb-true}
use Rattle.prefix_range.specs.Prefix.{Prefix}
use Rattle.journal_lines.specs.declared.event.Event.TheVariants.{Grant}
use Rattle.journal_lines.specs.declared.event.Lease.{Lease}
use Rattle.attribution.specs.Run.{Step, At, StartInTime, IsValidAt, infinity}
use Rattle.pair_world.specs.PairWorld.{PairWorld}
use Rattle.pair_world.specs.Holders.{client_cmp, client_total, HasSome, MayHold, HasByStep, GivesBackBy, IsNoted}
use Rattle.pair_world.specs.Holders.{AreHolders}
use Rattle.std.specs.declared.cmp.Ordering.{Ordering}
use Rattle.std.specs.declared.cmp.Ordering.TheVariants.{Less, Equal, Greater}
use Rattle.std.specs.Ordering.{is_eq}
use Rattle.std.specs.BTreeSet.{BTreeSet, contains, Updates}
use Rattle.std.specs.List.Sorted.{IsStrictlySortedBy}
use Rattle.std.proofs.lemmas.Map.Lookups.{exact_bytes}
use Rattle.std.proofs.lemmas.Map.Views.{btree_set_contains_iff}
use Rattle.pair_world.proofs.Effects.{by_test}
use Rattle.pair_world.proofs.Lists.{at_below}
use Rattle.pair_world.proofs.Phases.{by_word}

-- no step between two places gives the lease back by now
pub record NoneBetween (run : List Step) (index place : ℕ) (g : Lease) (now : ℕ) : Type 0 where
  pub none : (j : ℕ) (s : Step) → index < j → j < place → At run j s → GivesBackBy s g now → ⊥

-- step i gives a lease, or none
pub has_by : (w : PairWorld) (p : Prefix) (i : ℕ) (s : Step) (g : Lease) → At w.run i s → s.line.event ≡ Grant g
    → MayHold w p i s.moment g → HasByStep w p i g.client
has_by w p i s g here grants may = record { step = s; lease = g; here = here; grants = grants; of = refl; may = may }

pub not_by : (w : PairWorld) (p : Prefix) (i : ℕ) (s : Step) (g : Lease) → At w.run i s → s.line.event ≡ Grant g
    → (MayHold w p i s.moment g → ⊥) → (c : List ℕ) → HasByStep w p i c → ⊥
not_by w p i s g here grants never c h =
    let same_step : s ≡ h.step = let e = sym here ∙ h.here in cc in
    let grant : s.line.event ≡ Grant h.lease = ap (λ (x : Step). x.line.event) same_step ∙ h.grants in
    let same : g ≡ h.lease = let e : Grant g ≡ Grant h.lease = sym grants ∙ grant in cc in
    never (subst (λ x. MayHold w p i s.moment x) (sym same)
    (subst (λ (x : Step). MayHold w p i x.moment h.lease) (sym same_step) h.may))

pub none_by : (w : PairWorld) (p : Prefix) (i : ℕ) (s : Step) → At w.run i s
    → ((g : Lease) → s.line.event ≡ Grant g → ⊥) → (c : List ℕ) → HasByStep w p i c → ⊥
none_by w p i s here never c h =
    let same_step : s ≡ h.step = let e = sym here ∙ h.here in cc in
    never h.lease (ap (λ (x : Step). x.line.event) same_step ∙ h.grants)

-- one step grants to one client
one_client : (w : PairWorld) (p : Prefix) (i : ℕ) (c q : List ℕ) → HasByStep w p i c → HasByStep w p i q → c ≡ q
one_client w p i c q h k =
    let same_step : h.step ≡ k.step = let e = sym h.here ∙ k.here in cc in
    let grant : Grant h.lease ≡ Grant k.lease = sym h.grants ∙ (ap (λ (x : Step). x.line.event) same_step ∙ k.grants) in
    let same : h.lease ≡ k.lease = cc in
    (sym h.of ∙ ap (λ (g : Lease). g.client) same) ∙ k.of

-- the moment of a step, 0 where there is none
abbrev moment_of : Option Step → ℕ
moment_of None = 0
moment_of (Some s) = s.moment

at_run : (xs : List Step) (i : ℕ) (s : Step) → At xs i s → i < length xs
at_run xs i s at = at_below xs i s at

-- the one lease starts at a moment, the others as they are granted
abbrev chosen_starts : PairWorld → (i start : ℕ) → ℕ → ℕ
chosen_starts w i start j = if j == i then start else moment_of (slice_get w.run j)

-- what a step gives is had by some choice of starts
has_some : (w : PairWorld) (p : Prefix) (i : ℕ) (c : List ℕ) → HasByStep w p i c → HasSome w p c
has_some w p i c h = (
  chosen_starts w i h.may.1.0,
  in_time,
  (h.may.0.0, h.may.0.2, (i, h.lease, valid, h.of, h.may.0.1)),
) where
  chosen : chosen_starts w i h.may.1.0 i ≡ h.may.1.0
  chosen = rw (eq-eqb i i refl) refl

  in_time : StartInTime w.transit w.run (chosen_starts w i h.may.1.0)
  in_time j s g here grants = by_test (λ z. (s.moment ≤ z) × (z ≤ s.moment + w.transit)) (j == i) h.may.1.0
      (moment_of (slice_get w.run j))
      (λ t.
      let same : j ≡ i = eqb-true j i t in
      let same_step : s ≡ h.step = let e = sym (subst (λ z. At w.run z s) same here) ∙ h.here in cc in
      subst (λ (x : Step). (x.moment ≤ h.may.1.0) × (h.may.1.0 ≤ x.moment + w.transit)) (sym same_step) (
        h.may.1.1,
        h.may.1.2,
      ))
      (λ f. let own : moment_of (slice_get w.run j) ≡ s.moment = ap moment_of here in (omega arith, omega arith))

  valid : IsValidAt w.run (chosen_starts w i h.may.1.0) i h.lease w.moment
  valid = record {
    step = h.step;
    here = h.here;
    grants = h.grants;
    begun = subst (λ z. z ≤ w.moment) (sym chosen) h.may.1.3;
    lasts = subst (λ z. (h.lease.valid ≡ infinity) ⊎ (w.moment < z + 1000 * h.lease.valid)) (sym chosen) h.may.1.4;
    kept = h.may.2;
  }

-- and what is had is given by a step
by_step : (w : PairWorld) (p : Prefix) (c : List ℕ) → HasSome w p c → (i : ℕ) × (i < length w.run) × HasByStep w p i c
by_step w p c (starts, in_time, (address, has_p, (i, g, v, of, has_g))) =
    let begins = in_time i v.step g v.here v.grants in (
      i,
      at_run w.run i v.step v.here,
      record {
        step = v.step;
        lease = g;
        here = v.here;
        grants = v.grants;
        of = of;
        may = ((address, has_g, has_p), (starts i, begins.0, begins.1, v.begun, v.lasts), v.kept);
      },
    )

-- what the steps so far note
pub noted_none : (w : PairWorld) (p : Prefix) (noted : List ℕ → Bool) → ((c : List ℕ) → noted c ≡ false)
    → IsNoted w p 0 noted
noted_none w p noted none = record {
  each = λ c h. let z = none c in absurd (cc);
  all = λ c i lt h. absurd (omega arith);
}

pub noted_on : (w : PairWorld) (p : Prefix) (i : ℕ) (noted : List ℕ → Bool) → ((c : List ℕ) → HasByStep w p i c → ⊥)
    → IsNoted w p i noted → IsNoted w p (i + 1) noted
noted_on w p i noted none h = record {
  each = λ c is. let x = h.each c is in (x.0, omega arith, x.2);
  all = λ c j lt has. by_word (cases_lt j i) (λ before. h.all c j before has) (λ at_least. let same : j ≡ i =
      omega arith in absurd (none c (subst (λ z. HasByStep w p z c) same has)));
}

is_same : (x y : List ℕ) → is_eq (client_cmp x y) ≡ true → x ≡ y
is_same x y e = exact_bytes x y (equal_is (client_cmp x y) e) where
  equal_is : (o : Ordering) → is_eq o ≡ true → o ≡ Equal
  equal_is Less h = absurd (cc)
  equal_is Equal h = refl
  equal_is Greater h = absurd (cc)

pub noted_add : (w : PairWorld) (p : Prefix) (i : ℕ) (old new : BTreeSet (List ℕ)) (c : List ℕ) → HasByStep w p i c
    → Updates client_cmp old new c true → IsNoted w p i (contains client_cmp old)
    → IsNoted w p (i + 1) (contains client_cmp new)
noted_add w p i old new c has updates h = record { each = each_new; all = all_new } where
  one : (q : List ℕ) (t : Bool) → is_eq (client_cmp c q) ≡ t → cond t true (contains client_cmp old q) ≡ true
      → (j : ℕ) × (j < i + 1) × HasByStep w p j q
  one q true e is = (i, omega arith, subst (HasByStep w p i) (is_same c q e) has)
  one q false e is = let x = h.each q is in (x.0, omega arith, x.2)

  each_new : (q : List ℕ) → contains client_cmp new q ≡ true → (j : ℕ) × (j < i + 1) × HasByStep w p j q
  each_new q is = one q (is_eq (client_cmp c q)) refl (sym (updates.0 q) ∙ is)

  kept : (q : List ℕ) (t : Bool) → contains client_cmp old q ≡ true → cond t true (contains client_cmp old q) ≡ true
  kept q true is = refl
  kept q false is = is

  all_new : (q : List ℕ) (j : ℕ) → j < i + 1 → HasByStep w p j q → contains client_cmp new q ≡ true
  all_new q j lt has_q = by_word (cases_lt j i)
      (λ before. updates.0 q ∙ kept q (is_eq (client_cmp c q)) (h.all q j before has_q))
      (λ at_least.
      let same : j ≡ i = omega arith in
      let mine : c ≡ q = one_client w p i c q has (subst (λ z. HasByStep w p z q) same has_q) in
      subst (λ z. contains client_cmp new z ≡ true) mine updates.1)

-- the clients noted by all steps are the holders
pub are_holders : (w : PairWorld) (p : Prefix) (s : BTreeSet (List ℕ)) (clients : List (List ℕ))
    → IsNoted w p (length w.run) (contains client_cmp s) → IsStrictlySortedBy client_cmp s.keys → clients ≡ s.keys
    → AreHolders w p clients
are_holders w p s clients noted sorted same = record {
  order = subst (IsStrictlySortedBy client_cmp) (sym same) sorted;
  each = λ c is.
      let x = noted.each c ((btree_set_contains_iff client_total exact_bytes s c).1 (subst (λ z. Has z c) same is)) in
      has_some w p x.0 c x.2;
  all = λ c is.
      let x = by_step w p c is in
      subst (λ z. Has z c) (sym same) ((btree_set_contains_iff client_total exact_bytes s c).0
      (noted.all c x.0 x.1 x.2));
}

pub at_index : (xs : List Step) (i : ℕ) (s : Step) → i < length xs → s ≡ get_or xs i s → At xs i s
at_index [] i s lt is = absurd (omega arith)
at_index (x ∷ xs) zero s lt is = ap (λ z. Some z) (sym is)
at_index (x ∷ xs) (suc i) s lt is = at_index xs i s (omega arith) is
