-- The unit's mark is set from a calm state, and goes back to one.
use Rattle.std.specs.Prelude.{◌≡◌, ◌≢◌, ℕ, ◌<◌, ◌≤◌, true, Option, Some, None}
use Rattle.std.proofs.Common.{arith, inl, inr, refl, sym, ◌∙◌, ap}
use Rattle.pair_world.specs.Said.{DueOf, InCalm, InMark, SaysEnd, Word, binding_of, bound, code, due_code, word_code_by}
use Rattle.binding_rules.specs.declared.unit.UnitStatus.TheVariants.{Active, Expired, Free, FreeBackup, Released}
use Rattle.binding_rules.specs.declared.update.Status.TheVariants.{Active as ActiveDue, Backup as BackupDue}
use Rattle.binding_rules.specs.declared.update.Status.TheVariants.{Expired as ExpiredDue, Free as FreeDue}
use Rattle.binding_rules.specs.declared.update.Status.TheVariants.{Released as ReleasedDue, Seized as SeizedDue}
use Rattle.binding_rules.specs.declared.update.BindReply.{BindReply}
use Rattle.binding_rules.specs.declared.unit.Binding.{Binding}
use Rattle.pair_world.specs.UnitWorld.{IsIn, Server, UnitSetting}
use Rattle.binding_rules.specs.declared.role.Role.TheVariants.{Primary, Secondary}
use Rattle.binding_rules.specs.declared.role.Role.{Role}
use Rattle.binding_rules.specs.declared.update.Status.{Status}
use Rattle.binding_rules.specs.declared.unit.UnitStatus.{UnitStatus}
use Rattle.binding_rules.specs.declared.unit.Unit.{Unit as UnitValue}
use Rattle.binding_rules.specs.declared.update.Update.{Update}
use Rattle.binding_rules.specs.Reply.{count_unmarked, is_accept, unmarked}
use Rattle.book_rules.specs.MessageRules.{due_update}
use Rattle.book_state.specs.Effects.{seized}
use Rattle.pair_world.proofs.Marks.{seize}
use Rattle.pair_world.proofs.Unmarks.{Raised, Tells, OrDue, OrDueEnd, unmark_a, unmark_b}
use Rattle.pair_world.proofs.Words.{no_word, no_end_silent, new_mark, same_marks}
use Rattle.pair_world.proofs.Effects.{no_mark_due}

-- the code of the word that tells of what is due
abbrev told_code : ℕ → Option Status → ℕ
told_code s None = 9
told_code s (Some ActiveDue) = s
told_code s (Some ExpiredDue) = 4
told_code s (Some ReleasedDue) = 5
told_code s (Some BackupDue) = 1
told_code s (Some FreeDue) = 0
told_code s (Some SeizedDue) = 7

tells : (s : ℕ) (due : Option Status) → Tells s (due_code due) (told_code s due)
tells s None = inr (λ e. absurd (omega arith), refl)
tells s (Some ActiveDue) = inl (refl, refl)
tells s (Some ExpiredDue) = inr (λ e. absurd (omega arith), refl)
tells s (Some ReleasedDue) = inr (λ e. absurd (omega arith), refl)
tells s (Some BackupDue) = inr (λ e. absurd (omega arith), refl)
tells s (Some FreeDue) = inr (λ e. absurd (omega arith), refl)
tells s (Some SeizedDue) = inr (λ e. absurd (omega arith), refl)

some_due : (d : Status) → due_code (Some d) ≢ 9
some_due ActiveDue e = absurd (omega arith)
some_due ExpiredDue e = absurd (omega arith)
some_due ReleasedDue e = absurd (omega arith)
some_due BackupDue e = absurd (omega arith)
some_due FreeDue e = absurd (omega arith)
some_due SeizedDue e = absurd (omega arith)

is_raised : (u : UnitValue) (due : Option Status) → Raised (due_code due) u.mine (count_unmarked u due)
is_raised u None = inl (refl, refl)
is_raised u (Some d) = inr (some_due d, refl)

active_word : (k : Binding) (status : UnitStatus) → 2 ≤ code k status → code k status ≤ 3
    → word_code_by ActiveDue k (bound status) ≡ code k status
active_word k (Active j) lo hi = refl
active_word k Free lo hi = absurd (omega arith)
active_word k FreeBackup lo hi = absurd (omega arith)
active_word k (Expired j) lo hi = absurd (omega arith)
active_word k (Released j) lo hi = absurd (omega arith)

due_lo : (side : Role) (s d : ℕ) → DueOf side s d → d ≡ 2 → (2 ≤ s) × (s ≤ 3)
due_lo Primary s d due is = (omega arith, omega arith)
due_lo Secondary s d due is = (omega arith, omega arith)

due_word_code : (k : Binding) (u : UnitValue) (side : Role) (due : Option Status)
    → DueOf side (code k u.status) (due_code due)
    → (d : Status) → due ≡ Some d → word_code_by d k (bound u.status) ≡ told_code (code k u.status) due
due_word_code k u side due shape ActiveDue is = let x = due_lo side _ _ shape (ap due_code is) in
    rw is (active_word k u.status x.0 x.1)
due_word_code k u side due shape ExpiredDue is = rw is refl
due_word_code k u side due shape ReleasedDue is = rw is refl
due_word_code k u side due shape BackupDue is = rw is refl
due_word_code k u side due shape FreeDue is = rw is refl
due_word_code k u side due shape SeizedDue is = absurd (no_mark_due _ side due shape is)

module _ (k : Binding) (x : Server) (u : UnitValue) (side : Role)
    (shape : DueOf side (code k u.status) (due_code u.due)) where
  due_word : (c m n : ℕ) → Word k (record x { unit = u }) c m n
      → OrDue (Word k x) (due_code u.due) (told_code (code k u.status) u.due) u.mine u.seen c m n
  due_word c m n (v, inl sent, ec, em, en) = inl (v, inl sent, ec, em, en)
  due_word c m n (v, inr due, ec, em, en) =
      let h = due_word_code k u side u.due shape v.status due.1 in
      let e : word_code_by v.status k (binding_of v) ≡ word_code_by v.status k (bound u.status) =
      ap (λ (z : Update). word_code_by v.status k (binding_of z)) due.2 in
      let m' : v.mine ≡ u.mine = ap (λ (z : Update). z.mine) due.2 in
      let n' : v.seen ≡ u.seen = ap (λ (z : Update). z.seen) due.2 in
      inr (λ nine. some_due v.status (sym (ap due_code due.1) ∙ nine), cc, cc, cc)

  due_end : (m e : ℕ) → SaysEnd (record x { unit = u }) m e → OrDueEnd (SaysEnd x) (due_code u.due) u.mine u.out_end m e
  due_end m e (v, inl sent, is, em, ee) = inl (v, inl sent, is, em, ee)
  due_end m e (v, inr due, is, em, ee) =
      let m' : v.mine ≡ u.mine = ap (λ (z : Update). z.mine) due.2 in
      let e' : v.end ≡ u.out_end = ap (λ (z : Update). z.end) due.2 ∙ ap (λ z. (due_update v.prefix u z).end) is in
      inr (λ nine. some_due v.status (sym (ap due_code due.1) ∙ nine), cc, cc)

module _ (s : UnitSetting) (k : Binding) (a b : Server) where
  pub seizes_a : InCalm k a b → InMark Primary k (record a { unit = seized Primary a.unit }) b
  seizes_a inv =
      let u = seized Primary a.unit in
      seize _ _ _ _ _ _ _ _ _ _ _ _ _ _ _ _ _ _ _ _ _ _ _ _ inv.phases.a inv.phases.b inv.acks.a inv.acks.b
      inv.phases.count_a inv.phases.count_b inv.stale.stale_a inv.stale.stale_b
      0 0 _ _ _ _ (inl (refl, refl)) (no_word k a u (inr refl)) (no_end_silent a u (inr refl)) (λ p o w. w)
      (new_mark a u)

  pub seizes_b : InCalm k a b → InMark Secondary k (record b { unit = seized Secondary b.unit }) a
  seizes_b inv =
      let u = seized Secondary b.unit in
      seize _ _ _ _ _ _ _ _ _ _ _ _ _ _ _ _ _ _ _ _ _ _ _ _ inv.phases.b inv.phases.a inv.acks.b inv.acks.a
      inv.phases.count_b inv.phases.count_a inv.stale.stale_b inv.stale.stale_a
      1 1 _ _ _ _ (inr (inl (refl, refl))) (no_word k b u (inr refl)) (no_end_silent b u (inr refl)) (λ p o w. w)
      (new_mark b u)

  pub unmarks_a : InMark Primary k a b → (r : BindReply) → IsIn b.replies r → is_accept r.acknowledgement ≡ true
      → r.of ≡ a.unit.mine → a.unit.seen < r.mine
      → InCalm k (record a { unit = unmarked a.unit r }) b
  unmarks_a inv r sent good of newer =
      let u = unmarked a.unit r in
      let h = unmark_a _ _ _ _ _ _ _ _ _ _ _ _ _ _ _ _ _ _ _ _ _ _ inv r.mine r.of (count_unmarked a.unit a.unit.due)
      (told_code (code k a.unit.status) a.unit.due) _ _ _ _ (r, (good, inl sent), refl, refl) newer of
      (is_raised a.unit a.unit.due) (tells (code k a.unit.status) a.unit.due) (due_word k a u Primary inv.x.due)
      (due_end k a u Primary inv.x.due) (λ p o w. w) (same_marks a u refl) in
      record { phases = h.0; acks = h.1; stale = h.2 }

  pub unmarks_b : InMark Secondary k b a → (r : BindReply) → IsIn a.replies r → is_accept r.acknowledgement ≡ true
      → r.of ≡ b.unit.mine → b.unit.seen < r.mine
      → InCalm k a (record b { unit = unmarked b.unit r })
  unmarks_b inv r sent good of newer =
      let u = unmarked b.unit r in
      let h = unmark_b _ _ _ _ _ _ _ _ _ _ _ _ _ _ _ _ _ _ _ _ _ _ inv r.mine r.of (count_unmarked b.unit b.unit.due)
      (told_code (code k b.unit.status) b.unit.due) _ _ _ _ (r, (good, inl sent), refl, refl) newer of
      (is_raised b.unit b.unit.due) (tells (code k b.unit.status) b.unit.due) (due_word k b u Secondary inv.x.due)
      (due_end k b u Secondary inv.x.due) (λ p o w. w) (same_marks b u refl) in
      record { phases = h.0; acks = h.1; stale = h.2 }
