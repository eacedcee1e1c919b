-- Every event keeps what is kept while the unit is marked at one server, x; the other is y.
use Rattle.std.specs.Prelude.{◌≡◌, ℕ, ◌<◌, ◌≤◌, ◌⊎◌, true, false, ◌∷◌, Some, None}
use Rattle.std.proofs.Common.{arith, inl, inr, refl, sym, ap, subst}
use Rattle.pair_world.specs.Phases.{Due}
use Rattle.pair_world.specs.Said.{DueOf, InMark, Says, binding_of, bound, code, due_code, is_mark, left_as}
use Rattle.pair_world.specs.Said.{word_code_by}
use Rattle.binding_rules.specs.declared.unit.UnitStatus.TheVariants.{Active, Free, FreeBackup}
use Rattle.binding_rules.specs.declared.update.Status.TheVariants.{Active as ActiveDue, Backup as BackupDue}
use Rattle.binding_rules.specs.declared.update.Status.TheVariants.{Expired as ExpiredDue, Free as FreeDue}
use Rattle.binding_rules.specs.declared.update.Status.TheVariants.{Released as ReleasedDue, Seized as SeizedDue}
use Rattle.binding_rules.specs.declared.update.BindReply.{BindReply}
use Rattle.binding_rules.specs.declared.unit.Binding.{Binding}
use Rattle.pair_world.specs.UnitWorld.{IsIn, Server, UnitSetting, granted}
use Rattle.book_rules.specs.MessageRules.{TellsUnit}
use Rattle.binding_rules.specs.declared.role.Role.TheVariants.{Primary, Secondary}
use Rattle.binding_rules.specs.declared.update.Acknowledgement.TheVariants.{Reject as RejectReply}
use Rattle.binding_rules.specs.declared.role.Role.{Role}
use Rattle.binding_rules.specs.declared.update.Status.{Status}
use Rattle.binding_rules.specs.declared.unit.UnitStatus.{UnitStatus}
use Rattle.binding_rules.specs.declared.unit.Unit.{Unit as UnitValue}
use Rattle.binding_rules.specs.declared.update.Update.{Update}
use Rattle.binding_rules.specs.Table.{answered, partners_pool}
use Rattle.book_state.specs.Effects.{changed, seized, own_pool}
use Rattle.binding_rules.specs.Reply.{is_accept}
use Rattle.binding_rules.specs.Role.{partner_of}
use Rattle.pair_world.proofs.Phases.{by_word}
use Rattle.pair_world.proofs.Marked.{change_x, change_y, take_y, take_mark_y, settle_y, fewer_marked}
use Rattle.pair_world.proofs.Words.{code_low, code_high, new_word, new_word_at, new_end, no_word, no_end, no_end_silent}
use Rattle.pair_world.proofs.Words.{new_answer, new_mark, same_marks, word_sent, end_sent, mark_sent, answer_sent}
use Rattle.pair_world.proofs.Words.{answer_reject}
use Rattle.pair_world.proofs.Effects.{accepted_as, replied, ended_at, active_codes, due_none, no_mark_due, kept_code}
use Rattle.pair_world.proofs.Effects.{kept_is, accepts_as, backup_of}

-- which status and which due change go together
due_free : (side : Role) → DueOf side 0 9
due_free Primary = inl (refl, refl)
due_free Secondary = inl (refl, refl)

due_active : (side : Role) (s d : ℕ) → 2 ≤ s → s ≤ 3 → (d ≡ 9) ⊎ (d ≡ 2) → DueOf side s d
due_active Primary s d lo hi due = inr (inr (inl (lo, hi, due)))
due_active Secondary s d lo hi due = inr (inr (inl (lo, hi, due)))

due_ended : (side : Role) (s : ℕ) → 4 ≤ s → s ≤ 5 → DueOf side s s
due_ended Primary s lo hi = inr (inr (inr (lo, hi, refl)))
due_ended Secondary s lo hi = inr (inr (inr (lo, hi, refl)))

due_backup : (side : Role) → DueOf side 1 9
due_backup Primary = inr (inl (refl, inl refl))
due_backup Secondary = inr (inl (refl, refl))

due_own : (side : Role) (k : Binding) → DueOf side (code k (own_pool side)) 9
due_own Primary k = due_free Primary
due_own Secondary k = due_backup Secondary

due_left : (side : Role) → DueOf (partner_of side) (left_as side) 9
due_left Primary = due_free Secondary
due_left Secondary = due_backup Primary

code_left : (side : Role) (k : Binding) → left_as side ≡ code k (partners_pool (partner_of side))
code_left Primary k = refl
code_left Secondary k = refl

left_low : (side : Role) → left_as side ≤ 1
left_low Primary = omega arith
left_low Secondary = omega arith

pub weaker : (side : Role) (s d : ℕ) → DueOf side s d → Due s d
weaker Primary s d due = due
weaker Secondary s d (inl x) = inl x
weaker Secondary s d (inr (inl x)) = inr (inl (x.0, inl x.1))
weaker Secondary s d (inr (inr x)) = inr (inr x)

pub free_is : (s d : ℕ) → Due s d → s ≡ 0 → d ≡ 9
free_is s d due is = omega arith

active_is_due : (s d : ℕ) → Due s d → d ≡ 2 → (2 ≤ s) × (s ≤ 3)
active_is_due s d due is = (omega arith, omega arith)

moved_is_due : (s d : ℕ) → Due s d → d ≡ 1 → s ≡ 1
moved_is_due s d due is = omega arith

module _ (side : Role) (s : UnitSetting) (k : Binding) (x y : Server) (inv : InMark side k x y) where
  abbrev WithX : UnitValue → Type 0
  WithX u = InMark side k (record x { unit = u }) y

  abbrev WithY : UnitValue → Type 0
  WithY u = InMark side k x (record y { unit = u })

  -- x's changes
  pub grants_x : x.unit.marked ≡ true → (reading valid out_end : ℕ) (holder : Binding)
      → WithX (granted s reading valid out_end holder x.unit)
  grants_x marked reading valid out_end holder =
      let u = granted s reading valid out_end holder x.unit in
      change_x _ _ _ _ _ _ _ _ _ _ _ _ _ _ _ _ _ _ _ _ _ _ _ _ inv _ _ _ _ _ _ _ _
      (due_active side _ _ (code_low _) (code_high _) (inr refl)) inv.no_ends_x (no_word k x u (inr marked))
      (no_end_silent x u (inr marked)) (λ p o w. w) (new_mark x u)

  pub ends_x : x.unit.marked ≡ true → (status : Binding → UnitStatus) (due : Status) (j : Binding)
      → x.unit.status ≡ Active j → 4 ≤ code k (status j) → code k (status j) ≤ 5
      → due_code (Some due) ≡ code k (status j) → WithX (ended_at status due x.unit j)
  ends_x marked status due j e lo hi same =
      let u = ended_at status due x.unit j in
      (change_x _ _ _ _ _ _ _ _ _ _ _ _ _ _ _ _ _ _ _ _ _ _ _ _ inv (code k (status j))
      (due_code (Some due)) _ _ _ _ _ _ (rw same (due_ended side (code k (status j)) lo hi)) inv.no_ends_x
      (no_word k x u (inr marked)) (no_end_silent x u (inr marked)) (λ p o w. w) (new_mark x u))

  pub moves_x : x.unit.marked ≡ true → side ≡ Primary → WithX (changed FreeBackup BackupDue x.unit)
  moves_x marked is =
      let u = changed FreeBackup BackupDue x.unit in
      change_x _ _ _ _ _ _ _ _ _ _ _ _ _ _ _ _ _ _ _ _ _ _ _ _ inv 1 1 _ _ _ _ _ _
      (subst (λ z. DueOf z 1 1) (sym is) (inr (inl (refl, inr (inl refl))))) inv.no_ends_x
      (no_word k x u (inr marked)) (no_end_silent x u (inr marked)) (λ p o w. w) (new_mark x u)

  pub reclaims_x : x.unit.marked ≡ true → side ≡ Primary → x.unit.status ≡ FreeBackup
      → WithX (changed x.unit.status FreeDue x.unit)
  reclaims_x marked is guard =
      let u = changed x.unit.status FreeDue x.unit in
      let one : code k x.unit.status ≡ 1 = ap (code k) guard in
      change_x _ _ _ _ _ _ _ _ _ _ _ _ _ _ _ _ _ _ _ _ _ _ _ _ inv (code k x.unit.status) 0 _ _ _ _ _ _
      (subst (λ z. DueOf z (code k x.unit.status) 0) (sym is) (inr (inl (one, inr (inr refl))))) inv.no_ends_x
      (no_word k x u (inr marked)) (no_end_silent x u (inr marked)) (λ p o w. w) (new_mark x u)

  pub seizes_x : WithX (seized side x.unit)
  seizes_x =
      let u = seized side x.unit in
      change_x _ _ _ _ _ _ _ _ _ _ _ _ _ _ _ _ _ _ _ _ _ _ _ _ inv _ 9 0 0 _ _ _ _ (due_own side k) (refl, refl)
      (no_word k x u (inr refl)) (no_end_silent x u (inr refl)) (λ p o w. w) (new_mark x u)

  pub rejects_x : (v : Update) → WithX (answered x.unit v RejectReply)
  rejects_x v = fewer_marked _ _ _ _ _ _ _ _ _ _ _ _ _ _ _ _ _ _ _ _ _ _ _ _ inv _ _ _ _ _ _ _ _ (λ c m n w. w)
      (λ c m n w. w) (λ m e w. w) (λ m e w. w) (answer_reject x v) (λ p o w. w) (λ m w. w) (λ m w. w)

  pub sends_update_x : (u : Update) → TellsUnit x.unit u → InMark side k (record x { updates = u ∷ x.updates }) y
  sends_update_x u telling = fewer_marked _ _ _ _ _ _ _ _ _ _ _ _ _ _ _ _ _ _ _ _ _ _ _ _ inv _ _ _ _ _ _ _ _
      (word_sent k x u telling) (λ c m n w. w) (end_sent x u telling) (λ m e w. w) (λ p o w. w) (λ p o w. w)
      (mark_sent x u telling (no_mark_due _ side x.unit.due inv.x.due)) (λ m w. w)

  pub sends_reply_x : (r : BindReply) → x.unit.pending ≡ Some r
      → InMark side k (record x { unit = record x.unit { pending = None }; replies = r ∷ x.replies }) y
  sends_reply_x r is = fewer_marked _ _ _ _ _ _ _ _ _ _ _ _ _ _ _ _ _ _ _ _ _ _ _ _ inv _ _ _ _ _ _ _ _ (λ c m n w. w)
      (λ c m n w. w) (λ m e w. w) (λ m e w. w) (answer_sent x r is) (λ p o w. w) (λ m w. w) (λ m w. w)

  -- y's changes
  pub ends_y : y.unit.marked ≡ false → (status : Binding → UnitStatus) (due : Status) (j : Binding)
      → y.unit.status ≡ Active j → 4 ≤ code k (status j) → code k (status j) ≤ 5
      → due_code (Some due) ≡ code k (status j) → word_code_by due k (bound (status j)) ≡ code k (status j)
      → WithY (ended_at status due y.unit j)
  ends_y open_y status due j e lo hi same word =
      let u = ended_at status due y.unit j in
      let codes = active_codes k y.unit.status j e in
      let low = left_low side in
      let not_active : u.marked ≡ false → Some due ≡ Some ActiveDue → ⊥ = λ open' is. let d : due_code (Some due) ≡ 2 =
      ap due_code is in absurd (omega arith) in
      (change_y _ _ _ _ _ _ _ _ _ _ _ _ _ _ _ _ _ _ _ _ _ _ _ _ inv (code k (status j)) (due_code (Some due))
      (code k (status j)) _ _ _ _ (rw same (due_ended (partner_of side) (code k (status j)) lo hi))
      (λ two. absurd (omega arith)) (λ _. sym same) (λ le. absurd (omega arith))
      (inl (λ is. absurd (omega arith))) (new_word_at k y u (code k (status j)) due refl word) (no_end y u not_active)
      (λ p o w. w) (same_marks y u open_y))

  pub moves_y : y.unit.marked ≡ false → side ≡ Secondary → y.unit.status ≡ Free
      → WithY (changed FreeBackup BackupDue y.unit)
  moves_y open_y is guard =
      let u = changed FreeBackup BackupDue y.unit in
      let zero' : code k y.unit.status ≡ 0 = ap (code k) guard in
      let one : left_as side ≡ 1 = ap left_as is in
      change_y _ _ _ _ _ _ _ _ _ _ _ _ _ _ _ _ _ _ _ _ _ _ _ _ inv 1 1 1 _ _ _ _
      (subst (λ z. DueOf (partner_of z) 1 1) (sym is) (inr (inl (refl, inr (inl refl)))))
      (λ two. absurd (omega arith)) (λ _. refl) (λ le. omega arith)
      (inl (λ e. absurd (omega arith))) (new_word_at k y u 1 BackupDue refl refl) (no_end y u (λ open' e. absurd (cc)))
      (λ p o w. w) (same_marks y u open_y)

  pub reclaims_y : y.unit.marked ≡ false → side ≡ Secondary → y.unit.status ≡ FreeBackup
      → WithY (changed y.unit.status FreeDue y.unit)
  reclaims_y open_y is guard =
      let u = changed y.unit.status FreeDue y.unit in
      let one : code k y.unit.status ≡ 1 = ap (code k) guard in
      let left : left_as side ≡ 1 = ap left_as is in
      change_y _ _ _ _ _ _ _ _ _ _ _ _ _ _ _ _ _ _ _ _ _ _ _ _ inv (code k y.unit.status) 0 0 _ _ _ _
      (subst (λ z. DueOf (partner_of z) (code k y.unit.status) 0) (sym is) (inr (inl (one, inr (inr refl)))))
      (λ two. absurd (omega arith)) (λ _. refl) (λ le. omega arith)
      (inr (refl, refl, λ e. absurd (omega arith))) (new_word_at k y u 0 FreeDue refl refl)
      (no_end y u (λ open' e. absurd (cc))) (λ p o w. w) (same_marks y u open_y)

  over_y : y.unit.marked ≡ false → (v : Update) → Says x v → y.unit.seen < v.mine
      → WithY (accepted_as ExpiredDue (partner_of side) y.unit v)
  over_y open_y v said newer =
      let u = accepted_as ExpiredDue (partner_of side) y.unit v in
      take_y _ _ _ _ _ _ _ _ _ _ _ _ _ _ _ _ _ _ _ _ _ _ _ _ inv (word_code_by v.status k (binding_of v)) v.mine v.seen
      0 9 0 0 0 0 _ _ _ _ (v, said, refl, refl, refl) newer (due_free (partner_of side)) (omega arith)
      (λ e. absurd (omega arith)) (λ e. absurd (omega arith)) (λ le. (refl, refl))
      (λ c m n w. inl (no_word k y u (inl refl) c m n w)) (λ m e w. inl (no_end_silent y u (inl refl) m e w))
      (new_answer y u _ refl) (same_marks y u open_y)

  pub accepts_y : y.unit.marked ≡ false → (waiting : _) (reading : ℕ) (v : Update) → IsIn x.updates v
      → y.unit.seen < v.mine
      → (status : Status) → v.status ≡ status → accepts_as status (partner_of side) waiting y.unit reading v ≡ true
      → WithY (accepted_as status (partner_of side) y.unit v)
  accepts_y open_y waiting reading v sent newer ActiveDue e ok =
      let u = accepted_as ActiveDue (partner_of side) y.unit v in
      let said : Says x v = inl (sent, ap is_mark e) in
      let kept = kept_code y.unit.due in
      let c0 = code k (Active (binding_of v)) in
      let lo : 2 ≤ c0 = code_low _ in
      let hi : c0 ≤ 3 = code_high _ in
      take_y _ _ _ _ _ _ _ _ _ _ _ _ _ _ _ _ _ _ _ _ _ _ _ _ inv (word_code_by v.status k (binding_of v)) v.mine v.seen
      c0 _ c0 _ _ _ _ _ _ _ (v, said, refl, refl, refl) newer (due_active (partner_of side) _ _ lo hi kept) hi
      (λ z. by_word kept (λ n. absurd (omega arith)) (λ n. absurd (omega arith))) (λ _. (lo, hi))
      (λ le. absurd (omega arith))
      (new_word k y u c0 (λ d due. rw (kept_is y.unit.due d due) refl)) (new_end y u) (new_answer y u _ refl)
      (same_marks y u open_y)
  accepts_y open_y waiting reading v sent newer ExpiredDue e ok = over_y open_y v (inl (sent, ap is_mark e)) newer
  accepts_y open_y waiting reading v sent newer ReleasedDue e ok = over_y open_y v (inl (sent, ap is_mark e)) newer
  accepts_y open_y waiting reading v sent newer FreeDue e ok = over_y open_y v (inl (sent, ap is_mark e)) newer
  accepts_y open_y waiting reading v sent newer BackupDue e ok =
      let u = accepted_as BackupDue (partner_of side) y.unit v in
      let said : Says x v = inl (sent, ap is_mark e) in
      let free = (backup_of y.unit reading v (partner_of side) k y.unit.status ok).0 in
      let nine = free_is _ _ (weaker (partner_of side) _ _ inv.y.due) free in
      let none = due_none y.unit.due nine in
      take_y _ _ _ _ _ _ _ _ _ _ _ _ _ _ _ _ _ _ _ _ _ _ _ _ inv (word_code_by v.status k (binding_of v)) v.mine v.seen
      1 (due_code y.unit.due) 0 _ _ y.unit.out_end _ _ _ _ (v, said, refl, refl, refl) newer
      (subst (λ z. DueOf (partner_of side) 1 z) (sym nine) (due_backup (partner_of side))) (omega arith)
      (λ z. absurd (omega arith)) (λ z. absurd (omega arith)) (λ le. inv.ends_y.no_ends (omega arith))
      (λ c m n w. inl (no_word k y u (inl none) c m n w)) (λ m e' w. inl (no_end_silent y u (inl none) m e' w))
      (new_answer y u _ refl) (same_marks y u open_y)
  accepts_y open_y waiting reading v sent newer SeizedDue e ok =
      let u = accepted_as SeizedDue (partner_of side) y.unit v in
      take_mark_y _ _ _ _ _ _ _ _ _ _ _ _ _ _ _ _ _ _ _ _ _ _ _ _ inv v.mine _ _ _ _ _
      (inl (v, sent, ap is_mark e, refl)) newer (left_low side) (sym (code_left side k))
      (subst (λ z. DueOf (partner_of side) z 9) (code_left side k) (due_left side))
      (no_word k y u (inl refl)) (no_end_silent y u (inl refl)) (new_answer y u _ refl) (same_marks y u open_y)

  pub rejects_y : (v : Update) → WithY (answered y.unit v RejectReply)
  rejects_y v = fewer_marked _ _ _ _ _ _ _ _ _ _ _ _ _ _ _ _ _ _ _ _ _ _ _ _ inv _ _ _ _ _ _ _ _ (λ c m n w. w)
      (λ c m n w. w) (λ m e w. w) (λ m e w. w) (λ p o w. w) (answer_reject y v) (λ m w. w) (λ m w. w)

  freed_y : y.unit.marked ≡ false → (r : BindReply) → IsIn x.replies r → is_accept r.acknowledgement ≡ true
      → y.unit.seen < r.mine → WithY (replied ExpiredDue y.unit r)
  freed_y open_y r sent good newer =
      let u = replied ExpiredDue y.unit r in
      settle_y _ _ _ _ _ _ _ _ _ _ _ _ _ _ _ _ _ _ _ _ _ _ _ _ inv r.mine r.of 0 0 0 0 _ _ _ _ (
        r,
        (good, inl sent),
        refl,
        refl,
      ) newer (due_free (partner_of side)) (omega arith) (λ le. (refl, refl))
      (no_word k y u (inl refl)) (no_end_silent y u (inl refl)) (λ p o w. w) (same_marks y u open_y)

  pub settles_y : y.unit.marked ≡ false → (r : BindReply) → IsIn x.replies r → is_accept r.acknowledgement ≡ true
      → y.unit.seen < r.mine → (d : Status) → y.unit.due ≡ Some d → WithY (replied d y.unit r)
  settles_y open_y r sent good newer ActiveDue is =
      let u = replied ActiveDue y.unit r in
      let shape = active_is_due _ _ (weaker (partner_of side) _ _ inv.y.due) (ap due_code is) in
      settle_y _ _ _ _ _ _ _ _ _ _ _ _ _ _ _ _ _ _ _ _ _ _ _ _ inv r.mine r.of _ _ _ _ _ _ _ _ (
        r,
        (good, inl sent),
        refl,
        refl,
      ) newer (due_active (partner_of side) _ _ shape.0 shape.1 (inl refl)) shape.1
      (λ le. absurd (omega arith))
      (no_word k y u (inl refl)) (no_end_silent y u (inl refl)) (λ p o w. w) (same_marks y u open_y)
  settles_y open_y r sent good newer BackupDue is =
      let u = replied BackupDue y.unit r in
      let one = moved_is_due _ _ (weaker (partner_of side) _ _ inv.y.due) (ap due_code is) in
      settle_y _ _ _ _ _ _ _ _ _ _ _ _ _ _ _ _ _ _ _ _ _ _ _ _ inv r.mine r.of _ _ _ _ _ _ _ _ (
        r,
        (good, inl sent),
        refl,
        refl,
      ) newer (subst (λ z. DueOf (partner_of side) z 9) (sym one) (due_backup (partner_of side)))
      (omega arith) inv.ends_y.no_ends
      (no_word k y u (inl refl)) (no_end_silent y u (inl refl)) (λ p o w. w) (same_marks y u open_y)
  settles_y open_y r sent good newer ExpiredDue is = freed_y open_y r sent good newer
  settles_y open_y r sent good newer ReleasedDue is = freed_y open_y r sent good newer
  settles_y open_y r sent good newer FreeDue is = freed_y open_y r sent good newer
  settles_y open_y r sent good newer SeizedDue is = absurd (no_mark_due _ (partner_of side) y.unit.due inv.y.due is)

  pub sends_update_y : (u : Update) → TellsUnit y.unit u → InMark side k x (record y { updates = u ∷ y.updates })
  sends_update_y u telling = fewer_marked _ _ _ _ _ _ _ _ _ _ _ _ _ _ _ _ _ _ _ _ _ _ _ _ inv _ _ _ _ _ _ _ _
      (λ c m n w. w) (word_sent k y u telling) (λ m e w. w) (end_sent y u telling) (λ p o w. w) (λ p o w. w)
      (λ m w. w) (mark_sent y u telling (no_mark_due _ (partner_of side) y.unit.due inv.y.due))

  pub sends_reply_y : (r : BindReply) → y.unit.pending ≡ Some r
      → InMark side k x (record y { unit = record y.unit { pending = None }; replies = r ∷ y.replies })
  sends_reply_y r is = fewer_marked _ _ _ _ _ _ _ _ _ _ _ _ _ _ _ _ _ _ _ _ _ _ _ _ inv _ _ _ _ _ _ _ _ (λ c m n w. w)
      (λ c m n w. w) (λ m e w. w) (λ m e w. w) (λ p o w. w) (answer_sent y r is) (λ m w. w) (λ m w. w)
