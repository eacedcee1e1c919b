-- The primary's events keep what is kept while the unit is marked at neither.
use Rattle.std.specs.Prelude.{◌≡◌, ℕ, ◌<◌, ◌≤◌, ◌⊎◌, true, false, ◌∷◌, Some, None}
use Rattle.std.proofs.Common.{arith, inl, inr, refl, sym, ap, subst}
use Rattle.pair_world.specs.Acks.{Stale}
use Rattle.pair_world.specs.Kept.{IsActiveOf}
use Rattle.pair_world.specs.Phases.{Due}
use Rattle.pair_world.specs.Said.{Answer, InCalm, Says, SaysMark, Word, binding_of, bound, code, due_code, is_mark}
use Rattle.pair_world.specs.Said.{word_code_by}
use Rattle.binding_rules.specs.declared.unit.UnitStatus.TheVariants.{Active, Expired, Free, FreeBackup, Released}
use Rattle.binding_rules.specs.declared.update.Status.TheVariants.{Active as ActiveDue, Backup as BackupDue}
use Rattle.binding_rules.specs.declared.update.Status.TheVariants.{Expired as ExpiredDue, Free as FreeDue}
use Rattle.binding_rules.specs.declared.update.Status.TheVariants.{Released as ReleasedDue, Seized as SeizedDue}
use Rattle.binding_rules.specs.declared.update.BindReply.{BindReply}
use Rattle.binding_rules.specs.declared.unit.Binding.{Binding}
use Rattle.pair_world.specs.UnitWorld.{IsGrantable, IsIn, Server, UnitSetting, granted}
use Rattle.book_rules.specs.MessageRules.{TellsUnit}
use Rattle.binding_rules.specs.declared.role.Role.TheVariants.{Primary}
use Rattle.binding_rules.specs.declared.update.Acknowledgement.TheVariants.{Reject as RejectReply}
use Rattle.binding_rules.specs.declared.update.Status.{Status}
use Rattle.binding_rules.specs.declared.unit.UnitStatus.{UnitStatus}
use Rattle.binding_rules.specs.declared.unit.Unit.{Unit as UnitValue}
use Rattle.binding_rules.specs.declared.update.Update.{Update}
use Rattle.binding_rules.specs.Table.{answered}
use Rattle.book_state.specs.Effects.{changed, expired}
use Rattle.binding_rules.specs.Reply.{is_accept}
use Rattle.binding_rules.specs.Unit.{status_of}
use Rattle.pair_world.proofs.PhasesA.{grant_a, end_a, move_a, take_active_a, take_over_a, reply_keep_a, reply_free_a}
use Rattle.pair_world.proofs.Acks.{fewer_ends}
use Rattle.pair_world.proofs.AcksA.{grant_a_ends, change_a_ends, take_active_a_ends, take_over_a_ends}
use Rattle.pair_world.proofs.AcksA.{reply_keep_a_ends, reply_free_a_ends}
use Rattle.pair_world.proofs.Words.{code_low, code_high, new_word, new_word_at, new_end, no_word, no_end, no_end_silent}
use Rattle.pair_world.proofs.Words.{new_answer, same_marks, word_sent, end_sent, mark_sent, answer_sent, answer_reject}
use Rattle.pair_world.proofs.Effects.{accepted_as, replied, any_active_is, ended_at, active_codes, grantable_a}
use Rattle.pair_world.proofs.Effects.{accept_active_a, no_backup_a, no_free_a, no_mark_due, kept_code, kept_is}
use Rattle.pair_world.proofs.Effects.{keep_shape, free_shape, fewer, accepts_as, expired_is}

active_due : (s d : ℕ) → Due s d → d ≡ 2 → 2 ≤ s
active_due s d due is = omega arith

moved_due : (s d : ℕ) → Due s d → d ≡ 1 → s ≡ 1
moved_due s d due is = omega arith

module _ (s : UnitSetting) (k : Binding) (a b : Server) (open_a : a.unit.marked ≡ false) (inv : InCalm k a b) where
  abbrev With : UnitValue → Type 0
  With u = InCalm k (record a { unit = u }) b

  stale_on : (u : UnitValue) → u.marked ≡ false → a.unit.seen ≤ u.seen
      → Stale u.seen b.unit.seen (SaysMark (record a { unit = u })) (SaysMark b)
  stale_on u is le = record {
    stale_a = λ m w. inv.stale.stale_a m (same_marks a u is m w);
    stale_b = λ m w. let h = inv.stale.stale_b m w in omega arith;
  }

  pub grants_a : (reading valid out_end : ℕ) (holder : Binding) → IsGrantable Primary a.unit holder
      → With (granted s reading valid out_end holder a.unit)
  grants_a reading valid out_end holder guard =
      let u = granted s reading valid out_end holder a.unit in
      let may = grantable_a k a.unit holder guard in
      let word = new_word_at k a u _ ActiveDue refl refl in
      record {
        phases = grant_a _ _ _ _ _ _ _ _ _ _ _ _ inv.phases _ _ _ (code_low _) (code_high _) may word (λ p o w. w);
        acks = grant_a_ends _ _ _ _ _ _ _ _ _ _ _ _ _ _ _ _ _ _ _ _ inv.phases inv.acks _ _ _ _ _ (code_low _)
            (code_high _) may word (new_end a u) (λ p o w. w);
        stale = stale_on u open_a (omega arith);
      }

  pub ends_a : (status : Binding → UnitStatus) (due : Status) (j : Binding) → a.unit.status ≡ Active j
      → 4 ≤ code k (status j) → code k (status j) ≤ 5
      → due_code (Some due) ≡ code k (status j) → word_code_by due k (bound (status j)) ≡ code k (status j)
      → With (ended_at status due a.unit j)
  ends_a status due j e lo hi same word =
      let codes = active_codes k a.unit.status j e in
      let u = ended_at status due a.unit j in
      let made = new_word_at k a u (code k (status j)) due refl word in
      let not_active : u.marked ≡ false → Some due ≡ Some ActiveDue → ⊥ = λ open' is. let d : due_code (Some due) ≡ 2 =
      ap due_code is in absurd (omega arith) in
      (record {
        phases = rw same (end_a _ _ _ _ _ _ _ _ _ _ _ _ inv.phases (code k (status j)) (Word k (record a { unit = u }))
            (Answer a) lo hi codes.0 codes.1 made (λ p o w. w));
        acks = change_a_ends _ _ _ _ _ _ _ _ _ _ _ _ _ _ _ _ _ _ _ _ inv.phases inv.acks (code k (status j))
            (due_code (Some due)) _ _ _ (inr (omega arith)) (omega arith, inr lo) (λ l. omega arith)
            (λ one. omega arith)
            (no_end a u not_active) (λ p o w. w);
        stale = stale_on u open_a (omega arith);
      })

  pub releases_a : (holder : Binding) → IsActiveOf a.unit.status holder
      → With (changed (Released holder) ReleasedDue a.unit)
  releases_a holder guard = ends_a Released ReleasedDue holder guard (omega arith) (omega arith) refl refl

  pub expires_a : status_of a.unit.status ≡ ActiveDue → With (changed (expired a.unit.status) ExpiredDue a.unit)
  expires_a guard = let j = any_active_is a.unit.status guard in
      subst With (sym (expired_is a.unit j.0 j.1))
      (ends_a Expired ExpiredDue j.0 j.1 (omega arith) (omega arith) refl refl)

  pub moves_a : a.unit.status ≡ Free → With (changed FreeBackup BackupDue a.unit)
  moves_a guard =
      let zero' : code k a.unit.status ≡ 0 = ap (code k) guard in
      let made = new_word_at k a (changed FreeBackup BackupDue a.unit) 1 BackupDue refl refl in
      record {
        phases = move_a _ _ _ _ _ _ _ _ _ _ _ _ inv.phases 1 1 _ _ refl (omega arith) (omega arith)
            (inr (inl (refl, inr (inl refl)))) made (λ p o w. w);
        acks = change_a_ends _ _ _ _ _ _ _ _ _ _ _ _ _ _ _ _ _ _ _ _ inv.phases inv.acks 1 1 _ _ _ (inl (omega arith))
            (omega arith, inl refl) (λ l. absurd (omega arith)) (λ one. omega arith)
            (no_end a (changed FreeBackup BackupDue a.unit) (λ open' is. absurd (cc))) (λ p o w. w);
        stale = stale_on (changed FreeBackup BackupDue a.unit) open_a (omega arith);
      }

  pub reclaims_a : a.unit.status ≡ FreeBackup → With (changed a.unit.status FreeDue a.unit)
  reclaims_a guard =
      let one : code k a.unit.status ≡ 1 = ap (code k) guard in
      let made = new_word_at k a (changed a.unit.status FreeDue a.unit) 0 FreeDue refl refl in
      record {
        phases = move_a _ _ _ _ _ _ _ _ _ _ _ _ inv.phases _ 0 _ _ one (omega arith) (omega arith)
            (inr (inl (one, inr (inr refl)))) made (λ p o w. w);
        acks = change_a_ends _ _ _ _ _ _ _ _ _ _ _ _ _ _ _ _ _ _ _ _ inv.phases inv.acks _ 0 _ _ _ (inl (omega arith))
            (omega arith, inl one) (λ l. omega arith) (λ is. omega arith)
            (no_end a (changed a.unit.status FreeDue a.unit) (λ open' is. absurd (cc))) (λ p o w. w);
        stale = stale_on (changed a.unit.status FreeDue a.unit) open_a (omega arith);
      }

  over_a : (cv : ℕ) (v : Update) → Says b v → word_code_by v.status k (binding_of v) ≡ cv → 4 ≤ cv
      → a.unit.seen < v.mine
      → With (accepted_as ExpiredDue Primary a.unit v)
  over_a cv v said is lo newer =
      let u = accepted_as ExpiredDue Primary a.unit v in
      record {
        phases = take_over_a _ _ _ _ _ _ _ _ _ _ _ _ inv.phases cv v.mine v.seen _ _ (v, said, is, refl, refl) newer lo
            (no_word k a u (inl refl)) (new_answer a u _ refl);
        acks = take_over_a_ends _ _ _ _ _ _ _ _ _ _ _ _ _ _ _ _ _ _ _ _ inv.phases inv.acks cv v.mine v.seen _ _ _ (
          v,
          said,
          is,
          refl,
          refl,
        ) newer lo (no_end_silent a u (inl refl));
        stale = stale_on u open_a (omega arith);
      }

  pub accepts_a : (waiting : _) (reading : ℕ) (v : Update) → IsIn b.updates v → a.unit.seen < v.mine
      → (status : Status) → v.status ≡ status → accepts_as status Primary waiting a.unit reading v ≡ true
      → With (accepted_as status Primary a.unit v)
  accepts_a waiting reading v sent newer ActiveDue e ok =
      let u = accepted_as ActiveDue Primary a.unit v in
      let said : Says b v = inl (sent, ap is_mark e) in
      let may = accept_active_a a.unit reading v k a.unit.status (binding_of v) ok in
      let word = new_word k a u (code k (Active (binding_of v))) (λ d due. rw (kept_is a.unit.due d due) refl) in
      record {
        phases = take_active_a _ _ _ _ _ _ _ _ _ _ _ _ inv.phases (code k (Active (binding_of v))) v.mine v.seen _ _ _
            (v, said, ap (λ z. word_code_by z k (binding_of v)) e, refl, refl) newer (code_low _) (code_high _)
            may (kept_code a.unit.due) word (new_answer a u _ refl);
        acks = take_active_a_ends _ _ _ _ _ _ _ _ _ _ _ _ _ _ _ _ _ _ _ _ inv.phases inv.acks
            (code k (Active (binding_of v))) v.mine v.seen v.end _ _ _ _ (
              v,
              said,
              ap (λ z. word_code_by z k (binding_of v)) e,
              refl,
              refl,
            ) (v, said, e, refl, refl) newer
            (code_low _) (code_high _) may word (new_end a u) (new_answer a u _ refl);
        stale = stale_on u open_a (omega arith);
      }
  accepts_a waiting reading v sent newer ExpiredDue e ok =
      over_a 4 v (inl (sent, ap is_mark e)) (ap (λ z. word_code_by z k (binding_of v)) e) (omega arith) newer
  accepts_a waiting reading v sent newer ReleasedDue e ok =
      over_a 5 v (inl (sent, ap is_mark e)) (ap (λ z. word_code_by z k (binding_of v)) e) (omega arith) newer
  accepts_a waiting reading v sent newer BackupDue e ok = absurd (no_backup_a a.unit reading v a.unit.status ok)
  accepts_a waiting reading v sent newer FreeDue e ok = absurd (no_free_a a.unit reading v a.unit.status ok)
  accepts_a waiting reading v sent newer SeizedDue e ok = let h =
      inv.stale.stale_b v.mine (inl (v, sent, ap is_mark e, refl)) in absurd (omega arith)

  pub rejects_a : (v : Update) → With (answered a.unit v RejectReply)
  rejects_a v = record {
    phases = fewer _ _ _ _ _ _ _ _ _ _ _ _ _ _ _ _ inv.phases (λ c m n w. w) (λ c m n w. w) (answer_reject a v)
        (λ p o w. w);
    acks = fewer_ends _ _ _ _ _ _ _ _ _ _ _ _ _ _ _ _ _ _ _ _ _ _ _ _ _ _ inv.acks (λ c m n w. w) (λ c m n w. w)
        (λ m e w. w) (λ m e w. w) (answer_reject a v) (λ p o w. w);
    stale = stale_on (answered a.unit v RejectReply) open_a (omega arith);
  }

  free_a : (due : Status) (r : BindReply) → Answer b r.mine r.of → r.of ≡ a.unit.mine → a.unit.seen < r.mine
      → a.unit.due ≡ Some due → (due_code (Some due) ≡ 0) ⊎ ((4 ≤ due_code (Some due)) × (due_code (Some due) ≤ 5))
      → With (replied ExpiredDue a.unit r)
  free_a due r said of newer is over =
      let d : due_code a.unit.due ≡ due_code (Some due) = ap due_code is in
      let shape = free_shape _ _ inv.phases.a.due (subst (λ z. (z ≡ 0) ⊎ ((4 ≤ z) × (z ≤ 5))) (sym d) over) in
      let u = replied ExpiredDue a.unit r in
      record {
        phases = reply_free_a _ _ _ _ _ _ _ _ _ _ _ _ inv.phases r.mine r.of _ _ said newer of shape
            (no_word k a u (inl refl)) (λ p o w. w);
        acks = reply_free_a_ends _ _ _ _ _ _ _ _ _ _ _ _ _ _ _ _ _ _ _ _ inv.phases inv.acks r.mine r.of _ _ _ said
            newer of shape (no_end_silent a u (inl refl));
        stale = stale_on u open_a (omega arith);
      }

  pub settles_a : (r : BindReply) → IsIn b.replies r → is_accept r.acknowledgement ≡ true → r.of ≡ a.unit.mine
      → a.unit.seen < r.mine → (d : Status) → a.unit.due ≡ Some d → With (replied d a.unit r)
  settles_a r sent good of newer ActiveDue is =
      let u = replied ActiveDue a.unit r in
      let d : due_code a.unit.due ≡ 2 = ap due_code is in
      record {
        phases = reply_keep_a _ _ _ _ _ _ _ _ _ _ _ _ inv.phases r.mine r.of _ _ (
          r,
          (good, inl sent),
          refl,
          refl,
        ) newer of (keep_shape _ _ inv.phases.a.due (inl d)) (no_word k a u (inl refl)) (λ p o w. w);
        acks = reply_keep_a_ends _ _ _ _ _ _ _ _ _ _ _ _ _ _ _ _ _ _ _ _ inv.phases inv.acks r.mine r.of _ _ _ _ (
          r,
          (good, inl sent),
          refl,
          refl,
        ) newer of (inl (refl, d, active_due _ _ inv.phases.a.due d))
            (no_end_silent a u (inl refl)) (λ p o w. w);
        stale = stale_on u open_a (omega arith);
      }
  settles_a r sent good of newer BackupDue is =
      let u = replied BackupDue a.unit r in
      let d : due_code a.unit.due ≡ 1 = ap due_code is in
      record {
        phases = reply_keep_a _ _ _ _ _ _ _ _ _ _ _ _ inv.phases r.mine r.of _ _ (
          r,
          (good, inl sent),
          refl,
          refl,
        ) newer of (keep_shape _ _ inv.phases.a.due (inr d)) (no_word k a u (inl refl)) (λ p o w. w);
        acks = reply_keep_a_ends _ _ _ _ _ _ _ _ _ _ _ _ _ _ _ _ _ _ _ _ inv.phases inv.acks r.mine r.of _ _ _ _ (
          r,
          (good, inl sent),
          refl,
          refl,
        ) newer of (inr (refl, moved_due _ _ inv.phases.a.due d))
            (no_end_silent a u (inl refl)) (λ p o w. w);
        stale = stale_on u open_a (omega arith);
      }
  settles_a r sent good of newer ExpiredDue is =
      free_a ExpiredDue r (r, (good, inl sent), refl, refl) of newer is (inr (omega arith, omega arith))
  settles_a r sent good of newer ReleasedDue is =
      free_a ReleasedDue r (r, (good, inl sent), refl, refl) of newer is (inr (omega arith, omega arith))
  settles_a r sent good of newer FreeDue is = free_a FreeDue r (r, (good, inl sent), refl, refl) of newer is (inl refl)
  settles_a r sent good of newer SeizedDue is = absurd (no_mark_due _ Primary a.unit.due inv.phases.a.due is)

  pub sends_update_a : (u : Update) → TellsUnit a.unit u → InCalm k (record a { updates = u ∷ a.updates }) b
  sends_update_a u telling = record {
    phases = fewer _ _ _ _ _ _ _ _ _ _ _ _ _ _ _ _ inv.phases (word_sent k a u telling) (λ c m n w. w) (λ p o w. w)
        (λ p o w. w);
    acks = fewer_ends _ _ _ _ _ _ _ _ _ _ _ _ _ _ _ _ _ _ _ _ _ _ _ _ _ _ inv.acks (word_sent k a u telling)
        (λ c m n w. w) (end_sent a u telling) (λ m e w. w) (λ p o w. w) (λ p o w. w);
    stale = record {
      stale_a = λ m w. inv.stale.stale_a m
          (mark_sent a u telling (no_mark_due _ Primary a.unit.due inv.phases.a.due) m w);
      stale_b = inv.stale.stale_b;
    };
  }

  pub sends_reply_a : (r : BindReply) → a.unit.pending ≡ Some r
      → InCalm k (record a { unit = record a.unit { pending = None }; replies = r ∷ a.replies }) b
  sends_reply_a r is = record {
    phases = fewer _ _ _ _ _ _ _ _ _ _ _ _ _ _ _ _ inv.phases (λ c m n w. w) (λ c m n w. w) (answer_sent a r is)
        (λ p o w. w);
    acks = fewer_ends _ _ _ _ _ _ _ _ _ _ _ _ _ _ _ _ _ _ _ _ _ _ _ _ _ _ inv.acks (λ c m n w. w) (λ c m n w. w)
        (λ m e w. w) (λ m e w. w) (answer_sent a r is) (λ p o w. w);
    stale = inv.stale;
  }
