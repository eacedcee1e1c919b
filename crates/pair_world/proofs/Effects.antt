-- What the effects of a take, of a reply and of an end come to, by cases.
use Rattle.std.specs.Prelude.{◌≡◌, ℕ, ◌+◌, ◌<◌, ◌≤◌, ◌⊎◌, Bool, true, false, ◌&&◌, ◌==◌, nat_le, nat_lt, Option, Some}
use Rattle.std.specs.Prelude.{None, if◌then◌else◌}
use Rattle.std.proofs.Common.{arith, ◌∙◌, inl, inr, refl, sym, ap, subst, List, not, max}
use Rattle.std.proofs.lemmas.Bool.{and_parts, eqb-true, leb-false, ltb-true}
use Rattle.pair_world.specs.Phases.{Due, Phases}
use Rattle.pair_world.specs.Said.{DueOf, binding_of, code, due_code, given}
use Rattle.binding_rules.specs.declared.unit.UnitStatus.TheVariants.{Active, Expired, Free, FreeBackup, Released}
use Rattle.binding_rules.specs.declared.update.Status.TheVariants.{Active as ActiveDue, Backup as BackupDue}
use Rattle.binding_rules.specs.declared.update.Status.TheVariants.{Expired as ExpiredDue, Free as FreeDue}
use Rattle.binding_rules.specs.declared.update.Status.TheVariants.{Released as ReleasedDue, Seized as SeizedDue}
use Rattle.binding_rules.specs.declared.update.BindReply.{BindReply}
use Rattle.binding_rules.specs.declared.unit.Binding.{Binding}
use Rattle.pair_world.specs.UnitWorld.{IsGrantable}
use Rattle.binding_rules.specs.declared.role.Role.TheVariants.{Primary, Secondary}
use Rattle.binding_rules.specs.declared.update.Acknowledgement.TheVariants.{Reject as RejectReply}
use Rattle.binding_rules.specs.declared.update.Acknowledgement.TheVariants.{Accept as AcceptReply}
use Rattle.binding_rules.specs.declared.role.Role.{Role}
use Rattle.binding_rules.specs.declared.update.Status.{Status}
use Rattle.binding_rules.specs.declared.unit.UnitStatus.{UnitStatus}
use Rattle.binding_rules.specs.declared.unit.Unit.{Unit as UnitValue}
use Rattle.binding_rules.specs.declared.update.Update.{Update}
use Rattle.binding_rules.specs.Table.{accepted, accepts, after_update, answered, kept_due, taken_by, said, accepts_by}
use Rattle.binding_rules.specs.Table.{counted, is_accepted, at_secondary, of_client, of_nobody, accepts_said, said_by}
use Rattle.binding_rules.specs.Table.{becomes_said, partners_pool, becomes}
use Rattle.binding_rules.specs.Reply.{after_reply, is_accept, settled, unmarked, counts, after_reply_to}
use Rattle.binding_rules.specs.Unit.{same_binding, status_of, freed}
use Rattle.pair_world.proofs.Phases.{or_eq, or_le, own_fewer}
use Rattle.pair_world.proofs.Words.{code_low, code_high, same_is}
use Rattle.book_state.specs.Effects.{or_as_was, changed, expired}
use Rattle.binding_rules.specs.Giving.{is_own}

pub by_test : {T : Type 0} (P : T → Type 0) (t : Bool) (x y : T) → (t ≡ true → P x) → (t ≡ false → P y)
    → P (if t then x else y)
by_test P true x y f g = f refl
by_test P false x y f g = g refl

-- what is accepted, by an update's status
abbrev pub accepts_as : Status → Role → Bool → UnitValue → ℕ → Update → Bool
accepts_as ActiveDue role waiting u now m = accepts role u now m (Active (binding_of m)) u.status
accepts_as ExpiredDue role waiting u now m = accepts role u now m (Expired (binding_of m)) u.status
accepts_as ReleasedDue role waiting u now m = accepts role u now m (Released (binding_of m)) u.status
accepts_as BackupDue role waiting u now m = accepts role u now m FreeBackup u.status
accepts_as FreeDue role waiting u now m = accepts role u now m Free u.status
accepts_as SeizedDue role waiting u now m = waiting

-- what the unit becomes, by the update's status
abbrev pub taken_as : Status → Role → UnitValue → Update → UnitValue
taken_as ActiveDue role u m = record u { status = Active (binding_of m); told = max u.told m.end; due = kept_due u.due }
taken_as ExpiredDue role u m = freed u
taken_as ReleasedDue role u m = freed u
taken_as BackupDue role u m = record u { status = FreeBackup }
taken_as FreeDue role u m = freed u
taken_as SeizedDue role u m = record (freed u) { status = partners_pool role }

abbrev pub accepted_as : Status → Role → UnitValue → Update → UnitValue
accepted_as status role u m = answered (record (taken_as status role u m) { mine = u.mine + 1; seen = m.mine }) m
    AcceptReply

same_mine : (status : Status) (role : Role) (u : UnitValue) (m : Update) → (taken_as status role u m).mine ≡ u.mine
same_mine ActiveDue role u m = refl
same_mine ExpiredDue role u m = refl
same_mine ReleasedDue role u m = refl
same_mine BackupDue role u m = refl
same_mine FreeDue role u m = refl
same_mine SeizedDue role u m = refl

-- An update that is accepted names a client where it should.
module _ (role : Role) (waiting : Bool) (u : UnitValue) (now : ℕ) (m : Update) where
  abbrev make : List ℕ → Binding
  make client = record { client = client; iaid = m.iaid }

  of_some : (c : List ℕ) (s : Status) → m.client ≡ Some c → m.status ≡ s → said m ≡ of_client s c m.iaid
  of_some c s ec es = ap (said_by m) ec ∙ ap (λ z. of_client z c m.iaid) es

  of_none : (s : Status) → m.client ≡ None → m.status ≡ s → said m ≡ of_nobody s
  of_none s ec es = ap (said_by m) ec ∙ ap of_nobody es

  bound_is : (c : List ℕ) → m.client ≡ Some c → make c ≡ binding_of m
  bound_is c ec = ap (λ o. make (given o)) (sym ec)

  abbrev Named : Status → Type 0
  Named status = accepts_by status role u now waiting m ≡ true
      → (accepts_as status role waiting u now m ≡ true) × (taken_by status role u m ≡ taken_as status role u m)

  as_said : (s : UnitStatus) → said m ≡ Some s → accepts_said role u now m (said m) ≡ true
      → (accepts role u now m s u.status ≡ true) × (becomes_said u m (said m) ≡ becomes u m s)
  as_said s is h = (subst (λ o. accepts_said role u now m o ≡ true) is h, ap (becomes_said u m) is)

  unsaid : {G : Type 0} → said m ≡ None → accepts_said role u now m (said m) ≡ true → G
  unsaid is h = let z = subst (λ o. accepts_said role u now m o ≡ true) is h in absurd (cc)

  named : (client : Option (List ℕ)) (status : Status) → m.client ≡ client → m.status ≡ status → Named status
  named (Some c) ActiveDue ec es h = as_said (Active (binding_of m)) (of_some c ActiveDue ec es
      ∙ ap (λ j. Some (Active j)) (bound_is c ec)) h
  named (Some c) ExpiredDue ec es h = as_said (Expired (binding_of m)) (of_some c ExpiredDue ec es
      ∙ ap (λ j. Some (Expired j)) (bound_is c ec)) h
  named (Some c) ReleasedDue ec es h = as_said (Released (binding_of m)) (of_some c ReleasedDue ec es
      ∙ ap (λ j. Some (Released j)) (bound_is c ec)) h
  named (Some c) BackupDue ec es h = as_said FreeBackup (of_some c BackupDue ec es) h
  named (Some c) FreeDue ec es h = as_said Free (of_some c FreeDue ec es) h
  named (Some c) SeizedDue ec es h = (h, refl)
  named None ActiveDue ec es h = unsaid (of_none ActiveDue ec es) h
  named None ExpiredDue ec es h = unsaid (of_none ExpiredDue ec es) h
  named None ReleasedDue ec es h = unsaid (of_none ReleasedDue ec es) h
  named None BackupDue ec es h = as_said FreeBackup (of_none BackupDue ec es) h
  named None FreeDue ec es h = as_said Free (of_none FreeDue ec es) h
  named None SeizedDue ec es h = (h, refl)

  accepted_is : taken_by m.status role u m ≡ taken_as m.status role u m
      → accepted role u m ≡ accepted_as m.status role u m
  accepted_is e = ap (λ z. answered (counted z m) m AcceptReply) e
      ∙ ap (λ n. answered (record (taken_as m.status role u m) { mine = n + 1; seen = m.mine }) m AcceptReply)
      (same_mine m.status role u m)

open_is : (t : Bool) → not t ≡ true → t ≡ false
open_is false h = refl
open_is true h = absurd (cc)

-- an update is dropped, accepted or rejected; of a marked unit none is accepted
pub update_cases : (P : UnitValue → Type 0) (role : Role) (waiting : Bool) (u : UnitValue) (now : ℕ) (v : Update) → P u
    → (u.seen < v.mine → u.marked ≡ false → accepts_as v.status role waiting u now v ≡ true
    → P (accepted_as v.status role u v)) → P (answered u v RejectReply)
    → P (after_update role u now waiting v)
update_cases P role waiting u now v drop accept reject =
    by_test P (nat_le v.mine u.seen) u (if is_accepted role u now waiting v then accepted role u v else answered u v
    RejectReply) (λ _. drop)
    (λ newer. by_test P (is_accepted role u now waiting v) (accepted role u v) (answered u v RejectReply)
    (λ yes'.
    let h = and_parts (not u.marked) (accepts_by v.status role u now waiting v) yes' in
    let n = named role waiting u now v v.client v.status refl refl h.1 in
    subst P (sym (accepted_is role waiting u now v n.1))
    (accept (leb-false v.mine u.seen newer) (open_is u.marked h.0) n.0))
    (λ _. reject))

abbrev pub replied : Status → UnitValue → BindReply → UnitValue
replied due u r = record (settled u due) { seen = r.mine }

-- a reply does nothing, settles what is due, or removes the mark
pub reply_cases : (P : UnitValue → Type 0) (u : UnitValue) (r : BindReply) → P u
    → ((d : Status) → u.marked ≡ false → u.due ≡ Some d → is_accept r.acknowledgement ≡ true → r.of ≡ u.mine
    → u.seen < r.mine → P (replied d u r))
    → (u.marked ≡ true → is_accept r.acknowledgement ≡ true → r.of ≡ u.mine → u.seen < r.mine → P (unmarked u r))
    → P (or_as_was u (after_reply u r))
reply_cases P u r same f g =
    by_test Q u.marked (if counts u r then Some (unmarked u r) else None) (after_reply_to u r u.due)
    (λ marked. by_test Q (counts u r) (Some (unmarked u r)) None (λ yes'. counted_as yes' (g marked)) (λ _. same))
    (λ open'. by_due open' u.due refl) where
      Q : Option UnitValue → Type 0
      Q o = P (or_as_was u o)

      counted_as : {G : Type 0} → counts u r ≡ true
          → (is_accept r.acknowledgement ≡ true → r.of ≡ u.mine → u.seen < r.mine → G) → G
      counted_as yes' h =
          let p = and_parts (is_accept r.acknowledgement) ((r.of == u.mine) && nat_lt u.seen r.mine) yes' in
          let q = and_parts (r.of == u.mine) (nat_lt u.seen r.mine) p.1 in
          h p.0 (eqb-true r.of u.mine q.0) (ltb-true u.seen r.mine q.1)

      by_due : u.marked ≡ false → (due : Option Status) → u.due ≡ due → Q (after_reply_to u r due)
      by_due open' None e = same
      by_due open' (Some d) e = by_test Q (counts u r) (Some (replied d u r)) None
          (λ yes'. counted_as yes' (f d open' e)) (λ _. same)

pub any_active_is : (status : UnitStatus) → status_of status ≡ ActiveDue → (j : Binding) × (status ≡ Active j)
any_active_is (Active j) h = (j, refl)
any_active_is Free h = absurd (cc)
any_active_is FreeBackup h = absurd (cc)
any_active_is (Expired j) h = absurd (cc)
any_active_is (Released j) h = absurd (cc)

-- a unit that ended
abbrev pub ended_at : (Binding → UnitStatus) → Status → UnitValue → Binding → UnitValue
ended_at status due u j = changed (status j) due u

pub expired_is : (u : UnitValue) (j : Binding) → u.status ≡ Active j
    → changed (expired u.status) ExpiredDue u ≡ ended_at Expired ExpiredDue u j
expired_is u j e = ap (λ z. changed (expired z) ExpiredDue u) e

pub active_codes : (k : Binding) (status : UnitStatus) (j : Binding) → status ≡ Active j
    → (2 ≤ code k status) × (code k status ≤ 3)
active_codes k status j e = rw e (code_low (same_binding j k), code_high (same_binding j k))

pub code_same : (k j b : Binding) → same_binding j b ≡ true → code k (Active j) ≡ code k (Active b)
code_same k j b h = ap (λ x. code k (Active x)) (same_is j b h)

-- who may be granted
own_a : (k : Binding) (status : UnitStatus) → is_own Primary status ≡ true → code k status ≡ 0
own_a k Free h = refl
own_a k FreeBackup h = absurd (cc)
own_a k (Active j) h = absurd (cc)
own_a k (Expired j) h = absurd (cc)
own_a k (Released j) h = absurd (cc)

own_b : (k : Binding) (status : UnitStatus) → is_own Secondary status ≡ true → code k status ≡ 1
own_b k Free h = absurd (cc)
own_b k FreeBackup h = refl
own_b k (Active j) h = absurd (cc)
own_b k (Expired j) h = absurd (cc)
own_b k (Released j) h = absurd (cc)

pub grantable_a : (k : Binding) (u : UnitValue) (b : Binding) → IsGrantable Primary u b
    → (code k u.status ≡ 0) ⊎ (code k u.status ≡ code k (Active b))
grantable_a k u b (inl own) = inl (own_a k u.status own)
grantable_a k u b (inr e) = inr (ap (code k) e)

pub grantable_b : (k : Binding) (u : UnitValue) (b : Binding) → IsGrantable Secondary u b
    → (code k u.status ≡ 1) ⊎ (code k u.status ≡ code k (Active b))
grantable_b k u b (inl own) = inl (own_b k u.status own)
grantable_b k u b (inr e) = inr (ap (code k) e)

-- what is accepted
module _ (u : UnitValue) (now : ℕ) (m : Update) where
  pub accept_active_a : (k : Binding) (status : UnitStatus) (b : Binding)
      → accepts Primary u now m (Active b) status ≡ true
      → (code k status ≡ 1) ⊎ (code k status ≡ code k (Active b))
  accept_active_a k Free b h = absurd (cc)
  accept_active_a k FreeBackup b h = inl refl
  accept_active_a k (Active j) b h = inr (code_same k j b h)
  accept_active_a k (Expired j) b h = absurd (cc)
  accept_active_a k (Released j) b h = absurd (cc)

  pub accept_active_b : (k : Binding) (status : UnitStatus) (b : Binding)
      → accepts Secondary u now m (Active b) status ≡ true
      → (code k status ≡ 0) ⊎ (code k status ≡ code k (Active b))
  accept_active_b k Free b h = inl refl
  accept_active_b k FreeBackup b h = absurd (cc)
  accept_active_b k (Active j) b h = inr (code_same k j b h)
  accept_active_b k (Expired j) b h = absurd (cc)
  accept_active_b k (Released j) b h = absurd (cc)

  pub no_backup_a : (status : UnitStatus) → accepts Primary u now m FreeBackup status ≡ true → ⊥
  no_backup_a Free h = absurd (cc)
  no_backup_a FreeBackup h = absurd (cc)
  no_backup_a (Active j) h = absurd (cc)
  no_backup_a (Expired j) h = absurd (cc)
  no_backup_a (Released j) h = absurd (cc)

  pub no_free_a : (status : UnitStatus) → accepts Primary u now m Free status ≡ true → ⊥
  no_free_a Free h = absurd (cc)
  no_free_a FreeBackup h = absurd (cc)
  no_free_a (Active j) h = absurd (cc)
  no_free_a (Expired j) h = absurd (cc)
  no_free_a (Released j) h = absurd (cc)

  -- a move to the secondary's pool is accepted of a free unit, as the receiver's last change left it
  pub backup_of : (role : Role) (k : Binding) (status : UnitStatus) → accepts role u now m FreeBackup status ≡ true
      → (code k status ≡ 0) × (m.seen ≡ u.mine)
  backup_of role k Free h = let p = and_parts (at_secondary role) (m.seen == u.mine) h in
      (refl, eqb-true m.seen u.mine p.1)
  backup_of role k FreeBackup h = absurd (cc)
  backup_of role k (Active j) h = absurd (cc)
  backup_of role k (Expired j) h = absurd (cc)
  backup_of role k (Released j) h = absurd (cc)

  pub pool_b : (k : Binding) (status : UnitStatus) → accepts Secondary u now m Free status ≡ true → code k status ≤ 1
  pool_b k Free h = omega arith
  pool_b k FreeBackup h = omega arith
  pool_b k (Active j) h = absurd (cc)
  pool_b k (Expired j) h = absurd (cc)
  pool_b k (Released j) h = absurd (cc)

pub kept_code : (due : Option Status) → (due_code (kept_due due) ≡ 9) ⊎ (due_code (kept_due due) ≡ 2)
kept_code None = inl refl
kept_code (Some ActiveDue) = inr refl
kept_code (Some ExpiredDue) = inl refl
kept_code (Some ReleasedDue) = inl refl
kept_code (Some BackupDue) = inl refl
kept_code (Some FreeDue) = inl refl
kept_code (Some SeizedDue) = inl refl

pub kept_is : (due : Option Status) (d : Status) → kept_due due ≡ Some d → d ≡ ActiveDue
kept_is None d h = absurd (cc)
kept_is (Some ActiveDue) d h = cc
kept_is (Some ExpiredDue) d h = absurd (cc)
kept_is (Some ReleasedDue) d h = absurd (cc)
kept_is (Some BackupDue) d h = absurd (cc)
kept_is (Some FreeDue) d h = absurd (cc)
kept_is (Some SeizedDue) d h = absurd (cc)

pub due_none : (due : Option Status) → due_code due ≡ 9 → due ≡ None
due_none None h = refl
due_none (Some ActiveDue) h = absurd (omega arith)
due_none (Some ExpiredDue) h = absurd (omega arith)
due_none (Some ReleasedDue) h = absurd (omega arith)
due_none (Some BackupDue) h = absurd (omega arith)
due_none (Some FreeDue) h = absurd (omega arith)
due_none (Some SeizedDue) h = absurd (omega arith)

pub no_mark_due : (s : ℕ) (side : Role) (due : Option Status) → DueOf side s (due_code due) → due ≡ Some SeizedDue → ⊥
no_mark_due s Primary due h is = let d : due_code due ≡ 7 = ap due_code is in omega arith
no_mark_due s Secondary due h is = let d : due_code due ≡ 7 = ap due_code is in omega arith

pub keep_shape : (s d : ℕ) → Due s d → (d ≡ 2) ⊎ (d ≡ 1) → (s ≡ 1) ⊎ ((2 ≤ s) × (s ≤ 3))
keep_shape s d due is = or_eq s 1 (λ ne. (omega arith, omega arith))

pub free_shape : (s d : ℕ) → Due s d → (d ≡ 0) ⊎ ((4 ≤ d) × (d ≤ 5)) → (4 ≤ s) ⊎ ((s ≡ 1) × (d ≡ 0))
free_shape s d due is = or_le 4 s (λ lt. (omega arith, omega arith))

-- fewer words keep the phases too
pub fewer : (sa ma na da sb mb nb db : ℕ) (UA UB UA' UB' : ℕ → ℕ → ℕ → Type 0) (RA RB RA' RB' : ℕ → ℕ → Type 0)
    → Phases sa ma na da sb mb nb db UA UB RA RB
    → ((c m n : ℕ) → UA' c m n → UA c m n) → ((c m n : ℕ) → UB' c m n → UB c m n) → ((p o : ℕ) → RA' p o → RA p o)
    → ((p o : ℕ) → RB' p o → RB p o)
    → Phases sa ma na da sb mb nb db UA' UB' RA' RB'
fewer sa ma na da sb mb nb db UA UB UA' UB' RA RB RA' RB' inv ua ub ra rb = record {
  a = own_fewer _ _ _ _ _ _ _ inv.a _ _ ua ra;
  b = own_fewer _ _ _ _ _ _ _ inv.b _ _ ub rb;
  count_a = inv.count_a;
  count_b = inv.count_b;
  heard = inv.heard;
  b_backup = inv.b_backup;
  b_active = inv.b_active;
  b_says_active = λ c m n w. inv.b_says_active c m n (ub c m n w);
  b_says_over = λ c m n w. inv.b_says_over c m n (ub c m n w);
  b_silent = λ c m n w. inv.b_silent c m n (ub c m n w);
  b_reply_last = λ p o w. inv.b_reply_last p o (rb p o w);
  a_says_active = λ c m n w. inv.a_says_active c m n (ua c m n w);
  a_says_over = λ c m n w. inv.a_says_over c m n (ua c m n w);
  a_after_over = λ c m n w new l c' m' n' w'. inv.a_after_over c m n (ua c m n w) new l c' m' n' (ua c' m' n' w');
  a_says_backup = λ c m n w. inv.a_says_backup c m n (ua c m n w);
}
