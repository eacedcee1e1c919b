-- How a change of a unit keeps the ends, for the side that changes and for the other.
use Rattle.std.specs.Prelude.{◌==◌, ◌≡◌, ℕ, ◌+◌, ◌<◌, ◌≤◌, ◌⊎◌, Bool, true, ◌||◌, List, ◌∷◌, Option, Some, None, max}
use Rattle.std.proofs.Common.{arith, inl, inr, sym, ◌∙◌, ap, subst, nat_le}
use Rattle.std.proofs.lemmas.Bool.{and_parts}
use Rattle.pair_world.specs.Kept.{RunningGrantsEnd, IsActiveOf, lead_of}
use Rattle.pair_world.specs.Phases.{Due}
use Rattle.pair_world.specs.Said.{Says, binding_of}
use Rattle.binding_rules.specs.declared.unit.UnitStatus.TheVariants.{Active, Expired, Free, FreeBackup, Released}
use Rattle.binding_rules.specs.declared.unit.Binding.{Binding}
use Rattle.pair_world.specs.UnitWorld.{Entry, Gives, GivesBack, IsGrantable, IsWithinLead, Server, UnitSetting, granted}
use Rattle.binding_rules.specs.declared.role.Role.TheVariants.{Primary, Secondary}
use Rattle.binding_rules.specs.declared.update.Status.TheVariants.{Released as ReleasedDue}
use Rattle.binding_rules.specs.declared.role.Role.{Role}
use Rattle.pair_world.specs.UnitSafe.{Runs}
use Rattle.binding_rules.specs.declared.update.Status.{Status}
use Rattle.binding_rules.specs.declared.unit.UnitStatus.{UnitStatus}
use Rattle.binding_rules.specs.declared.unit.Unit.{Unit as UnitValue}
use Rattle.binding_rules.specs.declared.update.Update.{Update}
use Rattle.binding_rules.specs.Unit.{same_binding}
use Rattle.pair_world.proofs.Phases.{by_word}
use Rattle.pair_world.proofs.Words.{same_is}
use Rattle.pair_world.proofs.Ends.{active_once}
use Rattle.binding_rules.specs.Giving.{is_own}
use Rattle.binding_rules.specs.Table.{accepts}

-- the side itself
module _ (s : UnitSetting) (now : ℕ) (log : List Entry) (side : Role) (u : UnitValue) (Told : Update
    → Type 0) (down : Option ℕ) (mark : Bool) (ends : RunningGrantsEnd s now log side u Told down mark)
    (seen_le : (v : Update) → Told v → v.seen ≤ u.mine) where
  -- what runs goes on under the unit's new binding and ends
  pub changes_own : (u' : UnitValue) → (u'.mine ≡ u.mine) ⊎ (u'.mine ≡ u.mine + 1)
      → ((k : Binding) (end : ℕ) → Runs s.transit log side k end → now < end → IsActiveOf u.status k
      → end + s.skew ≤ u.own_end → IsActiveOf u'.status k × (end + s.skew ≤ u'.own_end) × (u.acked ≤ u'.acked))
      → RunningGrantsEnd s now log side u' Told down mark
  changes_own u' mine keeps = record {
    own_end = λ k end runs lt. let h = on k end runs lt in (h.0, h.1);
    released = λ v told is seen end runs. by_word mine
        (λ e. ends.released v told is (seen ∙ e) end runs)
        (λ e. let h = seen_le v told in absurd (omega arith));
    lead = λ k end runs lt. let h = on k end runs lt in let l = ends.lead k end runs lt in omega arith;
    lead_down = λ d is k end runs lt. let h = on k end runs lt in let l = ends.lead_down d is k end runs lt in
        omega arith;
    none_marked = ends.none_marked;
  } where
    on : (k : Binding) (end : ℕ) → Runs s.transit log side k end → now < end
        → IsActiveOf u'.status k × (end + s.skew ≤ u'.own_end) × (u.acked ≤ u'.acked)
    on k end runs lt = let h = ends.own_end k end runs lt in keeps k end runs lt h.0 h.1

  pub grants_own : (reading valid out_end : ℕ) (holder : Binding) → now ≤ reading + s.skew → reading ≤ now + s.skew
      → ((k : Binding) → IsActiveOf u.status k → holder ≡ k)
      → IsWithinLead s u.acked reading valid → ((d : ℕ) → down ≡ Some d → ⊥) → (mark ≡ true → ⊥)
      → RunningGrantsEnd s now (Gives side holder now valid ∷ log) side (granted s reading valid out_end holder u) Told down mark
  grants_own reading valid out_end holder near near' same within up none = record {
    own_end = own;
    released = λ v told is seen end runs. let h = seen_le v told in absurd (omega arith);
    lead = in_lead;
    lead_down = λ d is. absurd (up d is);
    none_marked = λ is. absurd (none is);
  } where
    own : (k : Binding) (end : ℕ) → Runs s.transit (Gives side holder now valid ∷ log) side k end → now < end
        → IsActiveOf (granted s reading valid out_end holder u).status k
        × (end + s.skew ≤ (granted s reading valid out_end holder u).own_end)
    own k end (inl r) lt = let e = r.2 in (ap Active r.1, omega arith)
    own k end (inr r) lt = let h = ends.own_end k end r lt in let le = h.1 in (ap Active (same k h.0), omega arith)

    in_lead : (k : Binding) (end : ℕ) → Runs s.transit (Gives side holder now valid ∷ log) side k end → now < end
        → end ≤ max (u.acked + s.skew) now + lead_of s
    in_lead k end (inl r) lt = let e = r.2 in omega arith
    in_lead k end (inr r) lt = ends.lead k end r lt

  pub gives_back_own : (u' : UnitValue) (holder : Binding) → u'.mine ≡ u.mine + 1 → u.status ≡ Active holder
      → RunningGrantsEnd s now (GivesBack holder now ∷ log) side u' Told down mark
  gives_back_own u' holder mine is = record {
    own_end = λ k end runs lt. absurd (over k end runs lt);
    released = λ v told r seen end runs. let h = seen_le v told in absurd (omega arith);
    lead = λ k end runs lt. absurd (over k end runs lt);
    lead_down = λ d e k end runs lt. absurd (over k end runs lt);
    none_marked = λ e k end runs. ends.none_marked e k end runs.1;
  } where
    over : (k : Binding) (end : ℕ) → Runs s.transit (GivesBack holder now ∷ log) side k end → now < end → ⊥
    over k end runs lt = let h = (ends.own_end k end runs.1 lt).0 in runs.0 (active_once u.status holder k is h)

-- the other side
module _ (s : UnitSetting) (now : ℕ) (log : List Entry) (side : Role) (u : UnitValue) (Told : Update
    → Type 0) (down : Option ℕ) (mark : Bool) (ends : RunningGrantsEnd s now log side u Told down mark) where
  pub told_less : (Told' : Update → Type 0) → ((v : Update) → Told' v → v.status ≡ ReleasedDue → Told v)
      → RunningGrantsEnd s now log side u Told' down mark
  told_less Told' less = record {
    own_end = ends.own_end;
    released = λ v told is seen end runs. ends.released v (less v told is) is seen end runs;
    lead = ends.lead;
    lead_down = ends.lead_down;
    none_marked = ends.none_marked;
  }

  pub grants_other : (x : Role) (holder : Binding) (valid : ℕ) → (x ≡ side → ⊥)
      → RunningGrantsEnd s now (Gives x holder now valid ∷ log) side u Told down mark
  grants_other x holder valid differs = record {
    own_end = λ k end runs. ends.own_end k end (other_runs k end runs);
    released = λ v told is seen end runs. ends.released v told is seen end (other_runs (binding_of v) end runs);
    lead = λ k end runs. ends.lead k end (other_runs k end runs);
    lead_down = λ d is k end runs. ends.lead_down d is k end (other_runs k end runs);
    none_marked = λ is k end runs. ends.none_marked is k end (other_runs k end runs);
  } where
    other_runs : (k : Binding) (end : ℕ) → Runs s.transit (Gives x holder now valid ∷ log) side k end
        → Runs s.transit log side k end
    other_runs k end (inl r) = absurd (differs r.0)
    other_runs k end (inr r) = r

  pub gives_back_other : (Told' : Update → Type 0) (holder : Binding)
      → ((v : Update) → Told' v → v.status ≡ ReleasedDue → Told v ⊎ (holder ≡ binding_of v))
      → RunningGrantsEnd s now (GivesBack holder now ∷ log) side u Told' down mark
  gives_back_other Told' holder less = record {
    own_end = λ k end runs lt. ends.own_end k end runs.1 lt;
    released = λ v told is seen end runs. by_word (less v told is) (λ old. ends.released v old is seen end runs.1)
        (λ e. absurd (runs.0 e));
    lead = λ k end runs lt. ends.lead k end runs.1 lt;
    lead_down = λ d is k end runs lt. ends.lead_down d is k end runs.1 lt;
    none_marked = λ is k end runs. ends.none_marked is k end runs.1;
  }

  pub later : (n : ℕ) → RunningGrantsEnd s (now + n) log side u Told down mark
  later n = record {
    own_end = λ k end runs lt. ends.own_end k end runs (omega arith);
    released = λ v told is seen end runs. let h = ends.released v told is seen end runs in omega arith;
    lead = λ k end runs lt. let h = ends.lead k end runs (omega arith) in omega arith;
    lead_down = λ d is k end runs lt. ends.lead_down d is k end runs (omega arith);
    none_marked = λ is k end runs. let h = ends.none_marked is k end runs in omega arith;
  }

  -- the other holds this side to be down, from a reading near now
  pub down_other : (d' : ℕ) → now ≤ d' + s.skew → RunningGrantsEnd s now log side u Told (Some d') mark
  down_other d' near = record {
    own_end = ends.own_end;
    released = ends.released;
    lead = ends.lead;
    lead_down = λ d is k end runs lt. let e : d' ≡ d = cc in let l = ends.lead k end runs lt in omega arith;
    none_marked = ends.none_marked;
  }

  pub up_other : RunningGrantsEnd s now log side u Told None mark
  up_other = record {
    own_end = ends.own_end;
    released = ends.released;
    lead = ends.lead;
    lead_down =
        λ d is. absurd (cc);
    none_marked = ends.none_marked;
  }

  -- where none of this side's grants runs, any words may come, and the other's mark may go
  pub told_any : (Told' : Update → Type 0) (mark' : Bool)
      → ((k : Binding) (end : ℕ) → Runs s.transit log side k end → end ≤ now) → RunningGrantsEnd s now log side u Told' down mark'
  told_any Told' mark' none = record {
    own_end = ends.own_end;
    released = λ v told is seen end runs. none (binding_of v) end runs;
    lead = ends.lead;
    lead_down = ends.lead_down;
    none_marked = λ is. none;
  }

  -- the other's mark changes
  pub mark_other : (mark' : Bool) → (mark' ≡ true → (k : Binding) (end : ℕ) → Runs s.transit log side k end
      → end ≤ now) → RunningGrantsEnd s now log side u Told down mark'
  mark_other mark' none = record {
    own_end = ends.own_end;
    released = ends.released;
    lead = ends.lead;
    lead_down =
        ends.lead_down;
    none_marked = none;
  }

-- a change that leaves no release due makes no word of one
pub no_release : (x : Server) (u' : UnitValue) → (u'.due ≡ Some ReleasedDue → ⊥)
    → (v : Update) → Says (record x { unit = u' }) v → v.status ≡ ReleasedDue → Says x v
no_release x u' none v (inl sent) is = inl sent
no_release x u' none v (inr due) is = absurd (none (due.1 ∙ ap (λ (z : Status). Some z) is))

-- what is the server's own to give is nobody's
own_is_free : (side : Role) (k : Binding) → is_own side (Active k) ≡ true → ⊥
own_is_free Primary k h = absurd (cc)
own_is_free Secondary k h = absurd (cc)

pub own_not_active : (side : Role) (status : UnitStatus) (k : Binding) → is_own side status ≡ true
    → IsActiveOf status k → ⊥
own_not_active side status k own x = own_is_free side k (subst (λ z. is_own side z ≡ true) x own)

-- who is granted has the unit already
pub granted_same : (side : Role) (u : UnitValue) (b k : Binding) → IsGrantable side u b → IsActiveOf u.status k → b ≡ k
granted_same side u b k (inl own) x = absurd (own_not_active side u.status k own x)
granted_same side u b k (inr e) x = active_once u.status b k e x

-- what an accepted update says of an active unit
module _ (side : Role) (u : UnitValue) (now : ℕ) (m : Update) (status : UnitStatus) (k : Binding)
    (act : IsActiveOf status k) where
  on : (s : UnitStatus) → accepts side u now m s status ≡ true → accepts side u now m s (Active k) ≡ true
  on s h = subst (λ z. accepts side u now m s z ≡ true) act h

  pub accept_active : (b : Binding) → accepts side u now m (Active b) status ≡ true → b ≡ k
  accept_active b h = sym (same_is k b (on (Active b) h))

  pub accept_expired : (b : Binding) → accepts side u now m (Expired b) status ≡ true
      → (b ≡ k) × (nat_le u.own_end now ≡ true)
  accept_expired b h = let p = and_parts (same_binding k b) (nat_le u.own_end now) (on (Expired b) h) in
      (sym (same_is k b p.0), p.1)

  pub accept_released : (b : Binding) → accepts side u now m (Released b) status ≡ true
      → (b ≡ k) × ((nat_le u.own_end now || (m.seen == u.mine)) ≡ true)
  accept_released b h =
      let p = and_parts (same_binding k b) (nat_le u.own_end now || (m.seen == u.mine)) (on (Released b) h) in
      (sym (same_is k b p.0), p.1)

  pub backup_not_active : accepts side u now m FreeBackup status ≡ true → ⊥
  backup_not_active h = let z = on FreeBackup h in absurd (cc)

  pub pool_not_active : accepts side u now m Free status ≡ true → ⊥
  pool_not_active h = let z = on Free h in absurd (cc)

pub not_ended : (s d : ℕ) → Due s d → s ≡ 2 → (d ≡ 0) ⊎ ((4 ≤ d) × (d ≤ 5)) → ⊥
not_ended s d due is over = omega arith

-- the reading has come past the end
pub past_end : (now skew reading end own_end : ℕ) → now < end → end + skew ≤ own_end → own_end ≤ reading
    → reading ≤ now + skew → ⊥
past_end now skew reading end own_end a b c d = omega arith
