-- The secondary's events keep what is kept while the unit is marked at neither.
use Rattle.std.specs.Prelude.{◌≡◌, ℕ, ◌<◌, ◌≤◌, true, false, ◌∷◌, Some, None}
use Rattle.std.proofs.Common.{arith, inl, refl, sym, ap, subst}
use Rattle.pair_world.specs.Acks.{Stale}
use Rattle.pair_world.specs.Kept.{IsActiveOf}
use Rattle.pair_world.specs.Phases.{DueAtB}
use Rattle.pair_world.specs.Said.{Answer, InCalm, Says, SaysMark, Word, binding_of, bound, code, due_code, is_mark}
use Rattle.pair_world.specs.Said.{word_code_by}
use Rattle.binding_rules.specs.declared.unit.UnitStatus.TheVariants.{Active, Expired, Released}
use Rattle.binding_rules.specs.declared.update.Status.TheVariants.{Active as ActiveDue, Backup as BackupDue}
use Rattle.binding_rules.specs.declared.update.Status.TheVariants.{Expired as ExpiredDue, Free as FreeDue}
use Rattle.binding_rules.specs.declared.update.Status.TheVariants.{Released as ReleasedDue, Seized as SeizedDue}
use Rattle.binding_rules.specs.declared.update.BindReply.{BindReply}
use Rattle.binding_rules.specs.declared.unit.Binding.{Binding}
use Rattle.pair_world.specs.UnitWorld.{IsGrantable, IsIn, Server, UnitSetting, granted}
use Rattle.book_rules.specs.MessageRules.{TellsUnit}
use Rattle.binding_rules.specs.declared.update.Acknowledgement.TheVariants.{Reject as RejectReply}
use Rattle.binding_rules.specs.declared.role.Role.TheVariants.{Secondary}
use Rattle.binding_rules.specs.declared.update.Status.{Status}
use Rattle.binding_rules.specs.declared.unit.UnitStatus.{UnitStatus}
use Rattle.binding_rules.specs.declared.unit.Unit.{Unit as UnitValue}
use Rattle.binding_rules.specs.declared.update.Update.{Update}
use Rattle.binding_rules.specs.Table.{answered}
use Rattle.book_state.specs.Effects.{changed, expired}
use Rattle.binding_rules.specs.Reply.{is_accept}
use Rattle.binding_rules.specs.Unit.{status_of}
use Rattle.pair_world.proofs.PhasesB.{grant_b, end_b, take_active_b, take_over_b, take_backup_b, take_free_b}
use Rattle.pair_world.proofs.PhasesB.{reply_keep_b, reply_free_b}
use Rattle.pair_world.proofs.Acks.{fewer_ends}
use Rattle.pair_world.proofs.AcksB.{grant_b_ends, end_b_ends, take_active_b_ends, take_over_b_ends, take_backup_b_ends}
use Rattle.pair_world.proofs.AcksB.{take_free_b_ends, reply_keep_b_ends, reply_free_b_ends}
use Rattle.pair_world.proofs.Words.{code_low, code_high, new_word, new_word_at, new_end, no_word, no_end, no_end_silent}
use Rattle.pair_world.proofs.Words.{new_answer, same_marks, word_sent, end_sent, mark_sent, answer_sent, answer_reject}
use Rattle.pair_world.proofs.Effects.{accepted_as, replied, any_active_is, ended_at, active_codes, grantable_b}
use Rattle.pair_world.proofs.Effects.{accept_active_b, due_none, pool_b, no_mark_due, kept_code, kept_is, fewer}
use Rattle.pair_world.proofs.Effects.{accepts_as, expired_is, backup_of}

-- what is due at the secondary tells its status
keeps_b : (s d : ℕ) → DueAtB s d → d ≡ 2 → (2 ≤ s) × (s ≤ 3)
keeps_b s d due is = (omega arith, omega arith)

ended_b : (s d : ℕ) → DueAtB s d → 4 ≤ d → d ≤ 5 → 4 ≤ s
ended_b s d due lo hi = omega arith

free_due_b : (s d : ℕ) → DueAtB s d → s ≡ 0 → d ≡ 9
free_due_b s d due is = omega arith

never_b : (s d : ℕ) → DueAtB s d → d ≤ 1 → ⊥
never_b s d due hi = omega arith

module _ (s : UnitSetting) (k : Binding) (a b : Server) (open_b : b.unit.marked ≡ false) (inv : InCalm k a b) where
  abbrev With : UnitValue → Type 0
  With u = InCalm k a (record b { unit = u })

  stale_on : (u : UnitValue) → u.marked ≡ false → b.unit.seen ≤ u.seen
      → Stale a.unit.seen u.seen (SaysMark a) (SaysMark (record b { unit = u }))
  stale_on u is le = record {
    stale_a = λ m w. let h = inv.stale.stale_a m w in omega arith;
    stale_b = λ m w. inv.stale.stale_b m (same_marks b u is m w);
  }

  pub grants_b : (reading valid out_end : ℕ) (holder : Binding) → IsGrantable Secondary b.unit holder
      → With (granted s reading valid out_end holder b.unit)
  grants_b reading valid out_end holder guard =
      let u = granted s reading valid out_end holder b.unit in
      let may = grantable_b k b.unit holder guard in
      let word = new_word_at k b u _ ActiveDue refl refl in
      record {
        phases = grant_b _ _ _ _ _ _ _ _ _ _ _ _ inv.phases _ _ _ (code_low _) (code_high _) may word (λ p o w. w);
        acks = grant_b_ends _ _ _ _ _ _ _ _ _ _ _ _ _ _ _ _ _ _ _ _ inv.phases inv.acks _ _ _ _ _ (code_low _)
            (code_high _) may word (new_end b u) (λ p o w. w);
        stale = stale_on u open_b (omega arith);
      }

  pub ends_b : (status : Binding → UnitStatus) (due : Status) (j : Binding) → b.unit.status ≡ Active j
      → 4 ≤ code k (status j) → code k (status j) ≤ 5
      → due_code (Some due) ≡ code k (status j) → word_code_by due k (bound (status j)) ≡ code k (status j)
      → With (ended_at status due b.unit j)
  ends_b status due j e lo hi same word =
      let codes = active_codes k b.unit.status j e in
      let u = ended_at status due b.unit j in
      let made = new_word_at k b u (code k (status j)) due refl word in
      let not_active : u.marked ≡ false → Some due ≡ Some ActiveDue → ⊥ = λ open' is. let d : due_code (Some due) ≡ 2 =
      ap due_code is in absurd (omega arith) in
      (record {
        phases = rw same (end_b _ _ _ _ _ _ _ _ _ _ _ _ inv.phases (code k (status j)) (Word k (record b { unit = u }))
            (Answer b) lo hi codes.0 codes.1 made (λ p o w. w));
        acks = end_b_ends _ _ _ _ _ _ _ _ _ _ _ _ _ _ _ _ _ _ _ _ inv.phases inv.acks (code k (status j))
            (due_code (Some due)) _ _ _ (omega arith) lo codes.0 codes.1 (no_end b u not_active) (λ p o w. w);
        stale = stale_on u open_b (omega arith);
      })

  pub releases_b : (holder : Binding) → IsActiveOf b.unit.status holder
      → With (changed (Released holder) ReleasedDue b.unit)
  releases_b holder guard = ends_b Released ReleasedDue holder guard (omega arith) (omega arith) refl refl

  pub expires_b : status_of b.unit.status ≡ ActiveDue → With (changed (expired b.unit.status) ExpiredDue b.unit)
  expires_b guard = let j = any_active_is b.unit.status guard in
      subst With (sym (expired_is b.unit j.0 j.1))
      (ends_b Expired ExpiredDue j.0 j.1 (omega arith) (omega arith) refl refl)

  over_b : (cv : ℕ) (v : Update) → Says a v → word_code_by v.status k (binding_of v) ≡ cv → 4 ≤ cv
      → b.unit.seen < v.mine → With (accepted_as ExpiredDue Secondary b.unit v)
  over_b cv v said is lo newer =
      let u = accepted_as ExpiredDue Secondary b.unit v in
      record {
        phases = take_over_b _ _ _ _ _ _ _ _ _ _ _ _ inv.phases cv v.mine v.seen _ _ (v, said, is, refl, refl) newer lo
            (no_word k b u (inl refl)) (new_answer b u _ refl);
        acks = take_over_b_ends _ _ _ _ _ _ _ _ _ _ _ _ _ _ _ _ _ _ _ _ inv.phases inv.acks cv v.mine v.seen _ _ _ (
          v,
          said,
          is,
          refl,
          refl,
        ) newer lo (no_end_silent b u (inl refl)) (new_answer b u _ refl);
        stale = stale_on u open_b (omega arith);
      }

  pub accepts_b : (waiting : _) (reading : ℕ) (v : Update) → IsIn a.updates v → b.unit.seen < v.mine
      → (status : Status) → v.status ≡ status → accepts_as status Secondary waiting b.unit reading v ≡ true
      → With (accepted_as status Secondary b.unit v)
  accepts_b waiting reading v sent newer ActiveDue e ok =
      let u = accepted_as ActiveDue Secondary b.unit v in
      let said : Says a v = inl (sent, ap is_mark e) in
      let may = accept_active_b b.unit reading v k b.unit.status (binding_of v) ok in
      let word = new_word k b u (code k (Active (binding_of v))) (λ d due. rw (kept_is b.unit.due d due) refl) in
      record {
        phases = take_active_b _ _ _ _ _ _ _ _ _ _ _ _ inv.phases (code k (Active (binding_of v))) v.mine v.seen _ _ _
            (v, said, ap (λ z. word_code_by z k (binding_of v)) e, refl, refl) newer (code_low _) (code_high _)
            may (kept_code b.unit.due) word (new_answer b u _ refl);
        acks = take_active_b_ends _ _ _ _ _ _ _ _ _ _ _ _ _ _ _ _ _ _ _ _ inv.phases inv.acks
            (code k (Active (binding_of v))) v.mine v.seen v.end _ _ _ _ (
              v,
              said,
              ap (λ z. word_code_by z k (binding_of v)) e,
              refl,
              refl,
            ) (v, said, e, refl, refl) newer
            (code_low _) (code_high _) may word (new_end b u) (new_answer b u _ refl);
        stale = stale_on u open_b (omega arith);
      }
  accepts_b waiting reading v sent newer ExpiredDue e ok =
      over_b 4 v (inl (sent, ap is_mark e)) (ap (λ z. word_code_by z k (binding_of v)) e) (omega arith) newer
  accepts_b waiting reading v sent newer ReleasedDue e ok =
      over_b 5 v (inl (sent, ap is_mark e)) (ap (λ z. word_code_by z k (binding_of v)) e) (omega arith) newer
  accepts_b waiting reading v sent newer BackupDue e ok =
      let p = backup_of b.unit reading v Secondary k b.unit.status ok in
      let free = p.0 in
      let nine = free_due_b _ _ inv.phases.b.due free in
      let none = due_none b.unit.due nine in
      let u = accepted_as BackupDue Secondary b.unit v in
      let said : Says a v = inl (sent, ap is_mark e) in
      record {
        phases = take_backup_b _ _ _ _ _ _ _ _ _ _ _ _ inv.phases v.mine v.seen (due_code b.unit.due) _ _ (
          v,
          said,
          ap (λ z. word_code_by z k (binding_of v)) e,
          refl,
          refl,
        ) newer p.1 free nine
            (no_word k b u (inl none)) (new_answer b u _ refl);
        acks = take_backup_b_ends _ _ _ _ _ _ _ _ _ _ _ _ _ _ _ _ _ _ _ _ inv.phases inv.acks v.mine v.seen
            (due_code b.unit.due) _ _ _ (
              v,
              said,
              ap (λ z. word_code_by z k (binding_of v)) e,
              refl,
              refl,
            ) newer free nine
            (no_end_silent b u (inl none)) (new_answer b u _ refl);
        stale = stale_on u open_b (omega arith);
      }
  accepts_b waiting reading v sent newer FreeDue e ok =
      let u = accepted_as FreeDue Secondary b.unit v in
      let said : Says a v = inl (sent, ap is_mark e) in
      let low = pool_b b.unit reading v k b.unit.status ok in
      record {
        phases = take_free_b _ _ _ _ _ _ _ _ _ _ _ _ inv.phases 0 v.mine v.seen _ _ (
          v,
          said,
          ap (λ z. word_code_by z k (binding_of v)) e,
          refl,
          refl,
        ) newer low (no_word k b u (inl refl))
            (new_answer b u _ refl);
        acks = take_free_b_ends _ _ _ _ _ _ _ _ _ _ _ _ _ _ _ _ _ _ _ _ inv.phases inv.acks 0 v.mine v.seen _ _ _ (
          v,
          said,
          ap (λ z. word_code_by z k (binding_of v)) e,
          refl,
          refl,
        ) newer (omega arith) low
            (no_end_silent b u (inl refl)) (new_answer b u _ refl);
        stale = stale_on u open_b (omega arith);
      }
  accepts_b waiting reading v sent newer SeizedDue e ok = let h =
      inv.stale.stale_a v.mine (inl (v, sent, ap is_mark e, refl)) in absurd (omega arith)

  pub rejects_b : (v : Update) → With (answered b.unit v RejectReply)
  rejects_b v = record {
    phases = fewer _ _ _ _ _ _ _ _ _ _ _ _ _ _ _ _ inv.phases (λ c m n w. w) (λ c m n w. w) (λ p o w. w)
        (answer_reject b v);
    acks = fewer_ends _ _ _ _ _ _ _ _ _ _ _ _ _ _ _ _ _ _ _ _ _ _ _ _ _ _ inv.acks (λ c m n w. w) (λ c m n w. w)
        (λ m e w. w) (λ m e w. w) (λ p o w. w) (answer_reject b v);
    stale = stale_on (answered b.unit v RejectReply) open_b (omega arith);
  }

  freed_b : (due : Status) (r : BindReply) → Answer a r.mine r.of → r.of ≡ b.unit.mine → b.unit.seen < r.mine
      → b.unit.due ≡ Some due → (4 ≤ due_code (Some due)) × (due_code (Some due) ≤ 5)
      → With (replied ExpiredDue b.unit r)
  freed_b due r said of newer is over =
      let d : due_code b.unit.due ≡ due_code (Some due) = ap due_code is in
      let four = ended_b _ _ inv.phases.b.due (omega arith) (omega arith) in
      let u = replied ExpiredDue b.unit r in
      record {
        phases = reply_free_b _ _ _ _ _ _ _ _ _ _ _ _ inv.phases r.mine r.of _ _ said newer of four
            (no_word k b u (inl refl)) (λ p o w. w);
        acks = reply_free_b_ends _ _ _ _ _ _ _ _ _ _ _ _ _ _ _ _ _ _ _ _ inv.phases inv.acks r.mine r.of _ _ _ said
            newer of four (no_end_silent b u (inl refl)) (λ p o w. w);
        stale = stale_on u open_b (omega arith);
      }

  pub settles_b : (r : BindReply) → IsIn a.replies r → is_accept r.acknowledgement ≡ true → r.of ≡ b.unit.mine
      → b.unit.seen < r.mine → (d : Status) → b.unit.due ≡ Some d → With (replied d b.unit r)
  settles_b r sent good of newer ActiveDue is =
      let u = replied ActiveDue b.unit r in
      let d : due_code b.unit.due ≡ 2 = ap due_code is in
      let shape = keeps_b _ _ inv.phases.b.due d in
      record {
        phases = reply_keep_b _ _ _ _ _ _ _ _ _ _ _ _ inv.phases r.mine r.of _ _ (
          r,
          (good, inl sent),
          refl,
          refl,
        ) newer of shape.0 shape.1 (no_word k b u (inl refl)) (λ p o w. w);
        acks = reply_keep_b_ends _ _ _ _ _ _ _ _ _ _ _ _ _ _ _ _ _ _ _ _ inv.phases inv.acks r.mine r.of _ _ _ (
          r,
          (good, inl sent),
          refl,
          refl,
        ) newer of d shape.0 shape.1 (no_end_silent b u (inl refl)) (λ p o w. w);
        stale = stale_on u open_b (omega arith);
      }
  settles_b r sent good of newer ExpiredDue is =
      freed_b ExpiredDue r (r, (good, inl sent), refl, refl) of newer is (omega arith, omega arith)
  settles_b r sent good of newer ReleasedDue is =
      freed_b ReleasedDue r (r, (good, inl sent), refl, refl) of newer is (omega arith, omega arith)
  settles_b r sent good of newer BackupDue is = let d : due_code b.unit.due ≡ 1 = ap due_code is in
      absurd (never_b _ _ inv.phases.b.due (omega arith))
  settles_b r sent good of newer FreeDue is = let d : due_code b.unit.due ≡ 0 = ap due_code is in
      absurd (never_b _ _ inv.phases.b.due (omega arith))
  settles_b r sent good of newer SeizedDue is = absurd (no_mark_due _ Secondary b.unit.due inv.phases.b.due is)

  pub sends_update_b : (u : Update) → TellsUnit b.unit u → InCalm k a (record b { updates = u ∷ b.updates })
  sends_update_b u telling = record {
    phases = fewer _ _ _ _ _ _ _ _ _ _ _ _ _ _ _ _ inv.phases (λ c m n w. w) (word_sent k b u telling) (λ p o w. w)
        (λ p o w. w);
    acks = fewer_ends _ _ _ _ _ _ _ _ _ _ _ _ _ _ _ _ _ _ _ _ _ _ _ _ _ _ inv.acks (λ c m n w. w)
        (word_sent k b u telling) (λ m e w. w) (end_sent b u telling) (λ p o w. w) (λ p o w. w);
    stale = record {
      stale_a = inv.stale.stale_a;
      stale_b =
          λ m w. inv.stale.stale_b m (mark_sent b u telling (no_mark_due _ Secondary b.unit.due inv.phases.b.due) m w);
    };
  }

  pub sends_reply_b : (r : BindReply) → b.unit.pending ≡ Some r
      → InCalm k a (record b { unit = record b.unit { pending = None }; replies = r ∷ b.replies })
  sends_reply_b r is = record {
    phases = fewer _ _ _ _ _ _ _ _ _ _ _ _ _ _ _ _ inv.phases (λ c m n w. w) (λ c m n w. w) (λ p o w. w)
        (answer_sent b r is);
    acks = fewer_ends _ _ _ _ _ _ _ _ _ _ _ _ _ _ _ _ _ _ _ _ _ _ _ _ _ _ inv.acks (λ c m n w. w) (λ c m n w. w)
        (λ m e w. w) (λ m e w. w) (λ p o w. w) (answer_sent b r is);
    stale = inv.stale;
  }
