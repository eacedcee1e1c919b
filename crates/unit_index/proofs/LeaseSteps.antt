-- How what clients have follows the lines.
use Rattle.std.proofs.Common.{◌≡◌, ℕ, ◌+◌, ◌<◌, ◌≤◌, ◌⊎◌, ◌||◌, Bool, true, false, List, [], ◌∷◌, ◌++◌, length, take}
use Rattle.std.proofs.Common.{get_or, ap, sym, ◌∙◌, subst, refl, inl, inr, arith, Option, Some, None, add-one}
use Rattle.std.specs.Prelude.{IfSome}
use Rattle.std.specs.BTreeSet.{BTreeSet}
use Rattle.std.proofs.Math.Nat.{eq-or-lt_of_le}
use Rattle.std.proofs.Math.Seq.{take-suc}
use Rattle.std.proofs.lemmas.List.{take_all}
use Rattle.prefix_range.specs.Prefix.{Prefix}
use Rattle.binding_rules.specs.declared.unit.UnitStatus.{UnitStatus}
use Rattle.binding_rules.specs.declared.unit.UnitStatus.TheVariants.{Free, FreeBackup, Active, Expired, Released}
use Rattle.binding_rules.specs.declared.unit.Unit.{Unit as UnitValue}
use Rattle.journal_lines.specs.declared.line.Line.{Line}
use Rattle.book_state.specs.declared.pool.Pool.{Pool}
use Rattle.book_state.specs.Book.{BookState, is_in, is_unit, units_in}
use Rattle.book_state.specs.Effects.{after, same_prefix}
use Rattle.book_state.specs.Places.{IsPool, IsUnitAt, index_in}
use Rattle.book_state.proofs.Ranges.{within, index_below, unit_of_place}
use Rattle.book_state.proofs.TableLaws.{same_means}
use Rattle.unit_index.specs.declared.leasing.LeaseKey.{LeaseKey}
use Rattle.unit_index.specs.Units.{IsUnitOf}
use Rattle.unit_index.specs.Subjects.{subject_of, IsAway, KeepsPools}
use Rattle.unit_index.specs.Leases.{HasLease, AreLeases, IsHeld, leased, leased_under, coming_of, held_at, held_before}
use Rattle.unit_index.proofs.Subjects.{after_away, IsAsWas}
use Rattle.unit_index.proofs.Registers.{as_it_was, away_from}
use Rattle.unit_index.proofs.Coming.{comes}
use Rattle.unit_index.proofs.LeastUnits.{unit_last, either}

-- ---- a unit and what it is delegated under

pub under_held : (b : BookState) (p : Prefix) (u : UnitValue) (h : LeaseKey) → IsUnitOf b p → u ≡ b.units p
    → leased_under p u.status ≡ Some h → IsHeld b h
under_held b p u h unit is under = by_status u.status refl under where
  by_status : (s : UnitStatus) → u.status ≡ s → leased_under p s ≡ Some h → IsHeld b h
  by_status (Active k) e f =
      let same : leased k.client k.iaid p ≡ h = cc in
      subst (IsHeld b) same (unit, sym (ap (λ (x : UnitValue). x.status) is) ∙ e)
  by_status Free e f = absurd (cc)
  by_status FreeBackup e f = absurd (cc)
  by_status (Expired k) e f = absurd (cc)
  by_status (Released k) e f = absurd (cc)

pub held_under : (b : BookState) (h : LeaseKey) → IsHeld b h → leased_under h.prefix (b.units h.prefix).status ≡ Some h
held_under b h held = ap (leased_under h.prefix) held.1

-- the unit is the one that an event is about, or another
near_or_away : (o : Option Prefix) (q : Prefix) → (o ≡ Some q) ⊎ IsAway o q
near_or_away None q = inr tt
near_or_away (Some p) q = by_test (same_prefix q p) refl where
  by_test : (t : Bool) → same_prefix q p ≡ t → (Some p ≡ Some q) ⊎ IsAway (Some p) q
  by_test true e = inl (ap Some (sym (same_means q p e)))
  by_test false e = inr e

-- ---- one line

module _ (b c : BookState) (l : Line) (s m t u : BTreeSet LeaseKey) where
  pub record IsSettled : Type 0 where
    pub more : (h : LeaseKey) → HasLease s h → HasLease m h
    pub only : (h : LeaseKey) → HasLease m h → HasLease s h ⊎ (coming_of l.event ≡ Some h)
    pub there : (h : LeaseKey) → coming_of l.event ≡ Some h → HasLease m h
    pub fewer_first : (h : LeaseKey) → HasLease t h → HasLease m h
    pub gone_first : (h : LeaseKey) → held_before b l.event ≡ Some h → HasLease t h → IsHeld c h
    pub kept_first : (h : LeaseKey) → IsHeld c h → HasLease m h → HasLease t h
    pub fewer_last : (h : LeaseKey) → HasLease u h → HasLease t h
    pub gone_last : (h : LeaseKey) → coming_of l.event ≡ Some h → HasLease u h → IsHeld c h
    pub kept_last : (h : LeaseKey) → IsHeld c h → HasLease t h → HasLease u h

  pub settled : c ≡ after b l → KeepsPools l.event → IsSettled → AreLeases b s → AreLeases c u
  settled is keeps i were = record { sound = sound; complete = complete } where
    was : IsAsWas b c (away_from (subject_of l.event))
    was = as_it_was b c l is keeps

    still : (h : LeaseKey) → IsAway (subject_of l.event) h.prefix → IsHeld b h → IsHeld c h
    still h far (unit, active) =
        let w = after_away b c l h.prefix is keeps far in (
          record { whole = unit.whole; unit = ap (λ (ps : List Pool). is_unit ps h.prefix) w.pools ∙ unit.unit },
          ap (λ (x : UnitValue). x.status) w.unit ∙ active,
        )

    old : (h : LeaseKey) → HasLease t h → IsHeld b h → IsHeld c h
    old h has held = elim (near_or_away (subject_of l.event) h.prefix) [
      | inl e ↦ i.gone_first h (ap (held_at b) e ∙ held_under b h held) has
      | inr far ↦ still h far held
    ]

    sound : (h : LeaseKey) → HasLease u h → IsHeld c h
    sound h has =
        let first = i.fewer_last h has in
        elim (i.only h (i.fewer_first h first)) [
          | inl o ↦ old h first (were.sound h o)
          | inr new ↦ i.gone_last h new has
        ]

    begun : (h : LeaseKey) → IsHeld c h → HasLease m h
    begun h (unit, active) =
        let before : IsUnitOf b h.prefix = record {
          whole = unit.whole;
          unit =
              ap (λ (ps : List Pool). is_unit ps h.prefix) (sym was.pools) ∙ unit.unit;
        } in
        let now : ((after b l).units h.prefix).status ≡ Active (record { client = h.client; iaid = h.iaid }) =
        ap (λ (x : BookState). (x.units h.prefix).status) (sym is) ∙ active in
        elim (comes b h.prefix (record { client = h.client; iaid = h.iaid }) l.reading l.event now) [
          | inl a ↦ i.more h (were.complete h (before, a))
          | inr new ↦ i.there h new
        ]

    complete : (h : LeaseKey) → IsHeld c h → HasLease u h
    complete h held = i.kept_last h held (i.kept_first h held (begun h held))

-- a line that is refused changes nothing
pub unsettled : (b c : BookState) (coming : Option LeaseKey) (s m u : BTreeSet LeaseKey) → c ≡ b
    → ((h : LeaseKey) → HasLease s h → HasLease m h) → ((h : LeaseKey) → HasLease m h → HasLease s h ⊎ (coming ≡ Some h))
    → ((h : LeaseKey) → HasLease u h → HasLease m h) → ((h : LeaseKey) → coming ≡ Some h → HasLease u h → IsHeld c h)
    → ((h : LeaseKey) → IsHeld c h → HasLease m h → HasLease u h) → AreLeases b s → AreLeases c u
unsettled b c coming s m u is more only fewer gone kept were = record {
  sound = λ h has. elim (only h (fewer h has))
      [ inl old ↦ subst (λ (x : BookState). IsHeld x h) (sym is) (were.sound h old) | inr new ↦ gone h new has ];
  complete = λ h held. kept h held (more h (were.complete h (subst (λ (x : BookState). IsHeld x h) is held)));
}

-- ---- all units of a table

pub record IsNotedTo (b : BookState) (pool : Pool) (s m : BTreeSet LeaseKey) (n : ℕ) : Type 0 where
  pub sound : ((h : LeaseKey) → HasLease s h → IsHeld b h) → (h : LeaseKey) → HasLease m h → IsHeld b h
  pub more : (h : LeaseKey) → HasLease s h → HasLease m h
  pub all : (h : LeaseKey) → IsHeld b h → is_in pool h.prefix ≡ true → index_in pool h.prefix < n → HasLease m h

pub noted_on : (b : BookState) (pool : Pool) (s m t : BTreeSet LeaseKey) (n : ℕ) (p : Prefix) (o : Option LeaseKey)
    → IsPool pool → IsUnitAt pool n p
    → IfSome o (IsHeld b) → ((h : LeaseKey) → IsHeld b h → h.prefix ≡ p → o ≡ Some h)
    → ((h : LeaseKey) → HasLease m h → HasLease t h) → ((h : LeaseKey) → HasLease t h → HasLease m h ⊎ (o ≡ Some h))
    → ((h : LeaseKey) → o ≡ Some h → HasLease t h)
    → IsNotedTo b pool s m n → IsNotedTo b pool s t (n + 1)
noted_on b pool s m t n p o good at held exact more only there noted = record {
  sound = λ were h has. elim (only h has) [
    | inl old ↦ noted.sound were h old
    | inr new ↦ subst (λ (x : Option LeaseKey). IfSome x (IsHeld b)) new held
  ];
  more = λ h has. more h (noted.more h has);
  all = all;
} where
  all : (h : LeaseKey) → IsHeld b h → is_in pool h.prefix ≡ true → index_in pool h.prefix < n + 1 → HasLease t h
  all h is inside lt =
      let le : index_in pool h.prefix ≤ n = omega (arith, lt) in
      elim (eq-or-lt_of_le le) [
        | inl e ↦ there h (exact h is (unit_of_place pool n p h.prefix good at is.0.whole inside e))
        | inr less ↦ more h (noted.all h is inside less)
      ]

pub noted_all : (b : BookState) (pool : Pool) (s m : BTreeSet LeaseKey) (n : ℕ) → IsPool pool → units_in pool ≤ n
    → IsNotedTo b pool s m n → (h : LeaseKey) → IsHeld b h → is_in pool h.prefix ≡ true → HasLease m h
noted_all b pool s m n good le noted h held inside =
    noted.all h held inside (let lt = index_below pool h.prefix good (within pool h.prefix inside) in
    omega (arith, lt, le))

pub record AreLeasesTo (b : BookState) (pools : List Pool) (n : ℕ) (s : BTreeSet LeaseKey) : Type 0 where
  pub sound : (h : LeaseKey) → HasLease s h → IsHeld b h
  pub all : (h : LeaseKey) → IsHeld b h → is_unit (take n pools) h.prefix ≡ true → HasLease s h

pub leases_on : (b : BookState) (pools : List Pool) (n : ℕ) (pool : Pool) (s t : BTreeSet LeaseKey) → n < length pools
    → pool ≡ get_or pools n pool
    → (((h : LeaseKey) → HasLease s h → IsHeld b h) → (h : LeaseKey) → HasLease t h → IsHeld b h) → ((h : LeaseKey) → HasLease s h → HasLease t h)
    → ((h : LeaseKey) → IsHeld b h → is_in pool h.prefix ≡ true → HasLease t h) → AreLeasesTo b pools n s
    → AreLeasesTo b pools (n + 1) t
leases_on b pools n pool s t lt is sound more all so = record {
  sound = sound so.sound;
  all = λ h held inside. elim (either (is_unit (take n pools) h.prefix) (is_in pool h.prefix) (sym (units h.prefix)
      ∙ inside)) [ inl old ↦ more h (so.all h held old) | inr new ↦ all h held new ];
} where
  longer : take (n + 1) pools ≡ take n pools ++ pool ∷ []
  longer = rw (add-one, take-suc pools n pool lt) (ap (λ (k : Pool). take n pools ++ k ∷ []) (sym is))

  units : (q : Prefix) → is_unit (take (n + 1) pools) q ≡ (is_unit (take n pools) q || is_in pool q)
  units q = ap (λ (ps : List Pool). is_unit ps q) longer ∙ unit_last (take n pools) pool q

pub leases_all : (b : BookState) (pools : List Pool) (n : ℕ) (s : BTreeSet LeaseKey) → pools ≡ b.pools → length pools ≤ n
    → AreLeasesTo b pools n s → AreLeases b s
leases_all b pools n s same le so = record {
  sound = so.sound;
  complete = λ h held. so.all h held (ap (λ (ps : List Pool). is_unit ps h.prefix) (take_all n pools le ∙ same)
      ∙ held.0.unit);
}
