-- The events of either server keep the invariant: x is the server, of this side, and y its partner.
use Rattle.std.specs.Prelude.{◌≡◌, ℕ, ◌+◌, ◌*◌, ◌<◌, ◌≤◌, ◌⊎◌, Bool, true, false, ◌==◌, nat_le, List, ◌∷◌, Option, Some}
use Rattle.std.specs.Prelude.{None, max}
use Rattle.std.proofs.Common.{arith, inl, inr, refl, sym, ◌∙◌, ap, subst}
use Rattle.std.proofs.lemmas.Bool.{or_cases, eqb-true, leb-true, cases_lt}
use Rattle.pair_world.specs.Kept.{RunningGrantsEnd, IsActiveOf, IsPast, Servers}
use Rattle.pair_world.specs.Said.{DueOf, InMark, Says, binding_of, code, due_code, is_mark}
use Rattle.binding_rules.specs.declared.unit.UnitStatus.TheVariants.{Active, Expired, Free, FreeBackup, Released}
use Rattle.binding_rules.specs.declared.update.Status.TheVariants.{Active as ActiveDue, Backup as BackupDue}
use Rattle.binding_rules.specs.declared.update.Status.TheVariants.{Expired as ExpiredDue, Free as FreeDue}
use Rattle.binding_rules.specs.declared.update.Status.TheVariants.{Released as ReleasedDue, Seized as SeizedDue}
use Rattle.binding_rules.specs.declared.update.BindReply.{BindReply}
use Rattle.binding_rules.specs.declared.unit.Binding.{Binding}
use Rattle.pair_world.specs.UnitWorld.{Contact, Entry, Gives, GivesBack, IsAlone, IsGrantable, IsIn, IsWithinLead}
use Rattle.pair_world.specs.UnitWorld.{MaySay, Server, UnitSetting, asked_by, contacted, granted}
use Rattle.pair_world.specs.UnitSafe.{IsAckTold, Runs}
use Rattle.book_rules.specs.MessageRules.{TellsUnit}
use Rattle.binding_rules.specs.declared.role.Role.{Role}
use Rattle.binding_rules.specs.declared.role.Role.TheVariants.{Primary, Secondary}
use Rattle.binding_rules.specs.declared.update.Acknowledgement.TheVariants.{Reject as RejectReply}
use Rattle.binding_rules.specs.declared.update.Status.{Status}
use Rattle.binding_rules.specs.declared.unit.Unit.{Unit as UnitValue}
use Rattle.binding_rules.specs.declared.update.Update.{Update}
use Rattle.binding_rules.specs.Reply.{after_reply, is_accept, unmarked, count_unmarked}
use Rattle.binding_rules.specs.Role.{partner_of}
use Rattle.binding_rules.specs.Table.{after_update, answered}
use Rattle.book_state.specs.Effects.{expired, or_as_was, seized, changed}
use Rattle.binding_rules.specs.Giving.{is_own}
use Rattle.binding_rules.specs.Unit.{status_of}
use Rattle.book_rules.specs.UnitRules.{takeover}
use Rattle.pair_world.proofs.Phases.{by_word}
use Rattle.pair_world.proofs.Words.{code_active, says_sent}
use Rattle.pair_world.proofs.Effects.{update_cases, accepted_as, replied, reply_cases, any_active_is, active_codes}
use Rattle.pair_world.proofs.Effects.{ended_at, kept_is, accepts_as, expired_is, due_none, backup_of}
use Rattle.pair_world.proofs.MarkSteps.{grants_x, ends_x, moves_x, reclaims_x, seizes_x, rejects_x, sends_update_x}
use Rattle.pair_world.proofs.MarkSteps.{sends_reply_x, ends_y, moves_y, reclaims_y, rejects_y, settles_y}
use Rattle.pair_world.proofs.MarkSteps.{sends_update_y, sends_reply_y, weaker, free_is}
use Rattle.pair_world.proofs.Servers.{off_less, other_on, goes_up, goes_down, stops, restarts, takes_higher}
use Rattle.pair_world.proofs.Servers.{takes_contact, says}
use Rattle.pair_world.proofs.EndsSteps.{grants_own, gives_back_own, told_less, told_any, grants_other, gives_back_other}
use Rattle.pair_world.proofs.EndsSteps.{down_other, up_other, mark_other, no_release, granted_same, accept_active}
use Rattle.pair_world.proofs.EndsSteps.{pool_not_active, backup_not_active, not_ended, past_end, changes_own}
use Rattle.pair_world.proofs.EndsSteps.{accept_expired, accept_released}
use Rattle.pair_world.proofs.Kept.{by_bool, by_modes}
use Rattle.pair_world.proofs.Sides.{CalmOf, KeptBy, KeptFrom, seen_from, as_kept, twice, calm_due, calm_seen, calm_mark}
use Rattle.pair_world.proofs.Sides.{calm_told, calm_apart, grants_calm, releases_calm, expires_calm, moves_calm}
use Rattle.pair_world.proofs.Sides.{reclaims_calm, accepts_calm, rejects_calm, settles_calm, sends_update_calm}
use Rattle.pair_world.proofs.Sides.{sends_reply_calm, seizes_calm, unmarks_calm, accepts_marked}

raised_or : (u : UnitValue) (due : Option Status) → (count_unmarked u due ≡ u.mine)
    ⊎ (count_unmarked u due ≡ u.mine + 1)
raised_or u None = inl refl
raised_or u (Some d) = inr refl

module _ (side : Role) (s : UnitSetting) (now : ℕ) (log : List Entry) (x y : Server)
    (kept : KeptFrom side s now log x y) where
  abbrev With : UnitValue → Type 0
  With u = KeptFrom side s now log (record x { unit = u }) y

  abbrev other : Role
  other = partner_of side

  inv : KeptBy side s now log x y
  inv = seen_from side s now log x y kept

  here : Servers x y
  here = inv.servers

  -- a mark stands at one server alone
  open_x : y.unit.marked ≡ true → x.unit.marked ≡ false
  open_x q = by_bool x.unit.marked (λ p. absurd (here.one (inr p) (inr q))) (λ f. f)

  seen_x : (v : Update) → Says y v → v.seen ≤ x.unit.mine
  seen_x v said = by_modes x y
      (λ p q. calm_seen side x y v (inv.calm p q (binding_of v)) said)
      (λ p. let c = inv.marked_x p (binding_of v) in let sent = c.y.sent_u _ _ _ (v, said, refl, refl, refl) in
      let count = c.count_y in omega arith)
      (λ q. let c = inv.marked_y q (binding_of v) in let sent = c.x.sent_u _ _ _ (v, said, refl, refl, refl) in
      let count = c.count_x in omega arith)

  due_of : (k : Binding) → DueOf side (code k x.unit.status) (due_code x.unit.due)
  due_of k = by_modes x y (λ p q. calm_due side k x y (inv.calm p q k)) (λ p. (inv.marked_x p k).x.due)
      (λ q. subst (λ z. DueOf z (code k x.unit.status) (due_code x.unit.due)) (twice side) (inv.marked_y q k).y.due)

  -- a change of the unit that leaves its mark
  put : (log' : List Entry) (u : UnitValue) → u.marked ≡ x.unit.marked
      → (x.unit.marked ≡ false → y.unit.marked ≡ false → (k : Binding) → CalmOf side k (record x { unit = u }) y)
      → (x.unit.marked ≡ true → (k : Binding) → InMark side k (record x { unit = u }) y)
      → (y.unit.marked ≡ true → (k : Binding) → InMark other k y (record x { unit = u }))
      → RunningGrantsEnd s now log' side u (Says y) y.down y.unit.marked
      → RunningGrantsEnd s now log' other y.unit (Says (record x { unit = u })) x.down x.unit.marked → IsPast now log'
      → KeptFrom side s now log' (record x { unit = u }) y
  put log' u e calm at_x at_y own others past = as_kept side s now log' (record x { unit = u }) y (record {
    calm = λ p q. calm (sym e ∙ p) q;
    marked_x = λ p. at_x (sym e ∙ p);
    marked_y = at_y;
    ends_x = own;
    ends_y = subst (λ m. RunningGrantsEnd s now log' other y.unit (Says (record x { unit = u })) x.down m) (sym e) others;
    servers = off_less x y here u x.updates x.replies off;
    past = past;
  }) where
    off : IsAlone (record x { unit = u }) → IsAlone x
    off (inl d) = inl d
    off (inr m) = inr (sym e ∙ m)

  -- a change that starts no grant and tells of no release
  simply : (u : UnitValue) → u.marked ≡ x.unit.marked
      → (x.unit.marked ≡ false → y.unit.marked ≡ false → (k : Binding) → CalmOf side k (record x { unit = u }) y)
      → (x.unit.marked ≡ true → (k : Binding) → InMark side k (record x { unit = u }) y)
      → (y.unit.marked ≡ true → (k : Binding) → InMark other k y (record x { unit = u }))
      → (u.mine ≡ x.unit.mine) ⊎ (u.mine ≡ x.unit.mine + 1)
      → ((k : Binding) (end : ℕ) → Runs s.transit log side k end → now < end → IsActiveOf x.unit.status k
      → end + s.skew ≤ x.unit.own_end → IsActiveOf u.status k × (end + s.skew ≤ u.own_end)
      × (x.unit.acked ≤ u.acked))
      → (u.due ≡ Some ReleasedDue → ⊥) → With u
  simply u e calm at_x at_y mine keeps due = put log u e calm at_x at_y
      (changes_own s now log side x.unit (Says y) y.down y.unit.marked inv.ends_x seen_x u mine keeps)
      (told_less s now log other y.unit (Says x) x.down x.unit.marked inv.ends_y (Says (record x { unit = u }))
      (no_release x u due)) inv.past

  pub kept_grants : (reading valid out_end : ℕ) (holder : Binding) → reading ≤ now + s.skew → now ≤ reading + s.skew
      → IsGrantable side x.unit holder
      → IsWithinLead s x.unit.acked reading valid → x.waiting ≡ false → x.stopped ≡ false
      → KeptFrom side s now (Gives side holder now valid ∷ log) (record x {
        unit =
            granted s reading valid out_end holder x.unit;
      }) y
  kept_grants reading valid out_end holder near near' guard within waits stopped =
      let u = granted s reading valid out_end holder x.unit in
      let on : IsAlone y → ⊥ = other_on x y here waits stopped in
      put (Gives side holder now valid ∷ log) u refl
      (λ p q k. grants_calm s k side x y p (inv.calm p q k) reading valid out_end holder guard)
      (λ p k. grants_x side s k x y (inv.marked_x p k) p reading valid out_end holder)
      (λ q. absurd (on (inr q)))
      (grants_own s now log side x.unit (Says y) y.down y.unit.marked inv.ends_x seen_x reading valid out_end holder
      near' near (λ k p. granted_same side x.unit holder k guard p) within
      (λ d is. on (inl (d, is))) (λ m. on (inr m)))
      (grants_other s now log other y.unit _ x.down x.unit.marked
      (told_less s now log other y.unit (Says x) x.down x.unit.marked inv.ends_y _ (no_release x u (λ e. absurd (cc))))
      side holder valid (not_other side))
      (omega arith, inv.past) where
        not_other : (side : Role) → side ≡ partner_of side → ⊥
        not_other Primary e = absurd (cc)
        not_other Secondary e = absurd (cc)

  pub kept_releases : (holder : Binding) → IsActiveOf x.unit.status holder
      → KeptFrom side s now (GivesBack holder now ∷ log) (record x {
        unit =
            changed (Released holder) ReleasedDue x.unit;
      }) y
  kept_releases holder is =
      put (GivesBack holder now ∷ log) (changed (Released holder) ReleasedDue x.unit) refl
      (λ p q k. releases_calm s k side x y p (inv.calm p q k) holder is)
      (λ p k. ends_x side s k x y (inv.marked_x p k) p Released ReleasedDue holder is (omega arith) (omega arith) refl)
      (λ q k. ends_y other s k y x (inv.marked_y q k) (open_x q) Released ReleasedDue holder is (omega arith)
      (omega arith) refl refl)
      (gives_back_own s now log side x.unit (Says y) y.down y.unit.marked inv.ends_x seen_x
      (changed (Released holder) ReleasedDue x.unit) holder refl is)
      (gives_back_other s now log other y.unit (Says x) x.down x.unit.marked inv.ends_y _ holder
      (λ v said r. told v said))
      (omega arith, inv.past) where
        told : (v : Update) → Says (record x { unit = ended_at Released ReleasedDue x.unit holder }) v
            → Says x v ⊎ (holder ≡ binding_of v)
        told v (inl sent) = inl (inl sent)
        told v (inr due) = inr (sym (ap binding_of due.2))

  pub kept_expires : (reading : ℕ) → reading ≤ now + s.skew → status_of x.unit.status ≡ ActiveDue
      → x.unit.own_end ≤ reading → With (changed (expired x.unit.status) ExpiredDue x.unit)
  kept_expires reading near guard over =
      let j = any_active_is x.unit.status guard in
      let ended = expired_is x.unit j.0 j.1 in
      simply (changed (expired x.unit.status) ExpiredDue x.unit) (ap (λ (u : UnitValue). u.marked) ended)
      (λ p q k. expires_calm s k side x y p (inv.calm p q k) guard)
      (λ p k. subst (λ u. InMark side k (record x { unit = u }) y) (sym ended)
      (ends_x side s k x y (inv.marked_x p k) p Expired ExpiredDue j.0 j.1 (omega arith) (omega arith) refl))
      (λ q k. subst (λ u. InMark other k y (record x { unit = u })) (sym ended)
      (ends_y other s k y x (inv.marked_y q k) (open_x q) Expired ExpiredDue j.0 j.1 (omega arith)
      (omega arith) refl refl))
      (inr (ap (λ (u : UnitValue). u.mine) ended))
      (λ k end runs lt act le. absurd (past_end now s.skew reading end x.unit.own_end lt le over near))
      (λ e. let z = ap (λ (u : UnitValue). u.due) ended in absurd (cc))

  -- the primary alone moves a unit and asks for it back
  pub kept_moves : side ≡ Primary → x.unit.status ≡ Free → With (changed FreeBackup BackupDue x.unit)
  kept_moves is guard = simply (changed FreeBackup BackupDue x.unit) refl
      (λ p q k. moves_calm s k side x y is p (inv.calm p q k) guard)
      (λ p k. moves_x side s k x y (inv.marked_x p k) p is) (λ q k.
      moves_y other s k y x (inv.marked_y q k) (open_x q) (ap partner_of is) guard) (inr refl)
      (λ k end runs lt act le. let none = sym guard ∙ act in absurd (cc)) (λ e. absurd (cc))

  pub kept_reclaims : side ≡ Primary → x.unit.status ≡ FreeBackup → With (changed x.unit.status FreeDue x.unit)
  kept_reclaims is guard = simply (changed x.unit.status FreeDue x.unit) refl
      (λ p q k. reclaims_calm s k side x y is p (inv.calm p q k) guard)
      (λ p k. reclaims_x side s k x y (inv.marked_x p k) p is guard)
      (λ q k. reclaims_y other s k y x (inv.marked_y q k) (open_x q) (ap partner_of is) guard) (inr refl)
      (λ k end runs lt act le. let none = sym guard ∙ act in absurd (cc)) (λ e. absurd (cc))

  kept_accepts : (reading : ℕ) (v : Update) → reading ≤ now + s.skew → IsIn y.updates v → x.unit.seen < v.mine
      → x.unit.marked ≡ false
      → (status : Status) → v.status ≡ status → accepts_as status side x.waiting x.unit reading v ≡ true
      → With (accepted_as status side x.unit v)
  kept_accepts reading v near sent newer open' status e ok = simply (accepted_as status side x.unit v) (mark_is status)
      (λ p q k. accepts_calm s k side x y p (inv.calm p q k) x.waiting reading v sent newer status e ok)
      (λ p. absurd (cc))
      (λ q k. accepts_marked s k side x y (inv.marked_y q k) open' x.waiting reading v sent newer status e ok)
      (inr refl) (keeps status e ok) (due_is status e ok) where
        mark_is : (status : Status) → (accepted_as status side x.unit v).marked ≡ x.unit.marked
        mark_is ActiveDue = refl
        mark_is ExpiredDue = refl
        mark_is ReleasedDue = refl
        mark_is BackupDue = refl
        mark_is FreeDue = refl
        mark_is SeizedDue = refl

        none_due : accepts_as BackupDue side x.waiting x.unit reading v ≡ true → x.unit.due ≡ None
        none_due ok =
            let free = (backup_of x.unit reading v side (binding_of v) x.unit.status ok).0 in
            due_none x.unit.due (free_is _ _ (weaker side _ _ (due_of (binding_of v))) free)

        due_is : (status : Status) → v.status ≡ status → accepts_as status side x.waiting x.unit reading v ≡ true
            → (accepted_as status side x.unit v).due ≡ Some ReleasedDue → ⊥
        due_is ActiveDue e ok d = let z = kept_is x.unit.due ReleasedDue d in absurd (cc)
        due_is ExpiredDue e ok d = absurd (cc)
        due_is ReleasedDue e ok d = absurd (cc)
        due_is BackupDue e ok d = let none = none_due ok in absurd (cc)
        due_is FreeDue e ok d = absurd (cc)
        due_is SeizedDue e ok d = absurd (cc)

        keeps : (status : Status) → v.status ≡ status → accepts_as status side x.waiting x.unit reading v ≡ true
            → (k : Binding) (end : ℕ) → Runs s.transit log side k end → now < end
            → IsActiveOf x.unit.status k → end + s.skew ≤ x.unit.own_end
            → IsActiveOf (accepted_as status side x.unit v).status k
            × (end + s.skew ≤ (accepted_as status side x.unit v).own_end)
            × (x.unit.acked ≤ (accepted_as status side x.unit v).acked)
        keeps ActiveDue e ok k end runs lt act le =
            (ap Active (accept_active side x.unit reading v x.unit.status k act (binding_of v) ok), le, omega arith)
        keeps ExpiredDue e ok k end runs lt act le =
            let p = accept_expired side x.unit reading v x.unit.status k act (binding_of v) ok in
            absurd (past_end now s.skew reading end x.unit.own_end lt le (leb-true x.unit.own_end reading p.1) near)
        keeps ReleasedDue e ok k end runs lt act le =
            let p = accept_released side x.unit reading v x.unit.status k act (binding_of v) ok in
            absurd (by_word (or_cases (nat_le x.unit.own_end reading) (v.seen == x.unit.mine) p.1)
            (λ by. past_end now s.skew reading end x.unit.own_end lt le (leb-true x.unit.own_end reading by) near)
            (λ by. let h = inv.ends_x.released v (inl (sent, ap is_mark e)) e (eqb-true v.seen x.unit.mine by) end
            (subst (λ z. Runs s.transit log side z end) (sym p.0) runs) in omega arith))
        keeps BackupDue e ok k end runs lt act le =
            absurd (backup_not_active side x.unit reading v x.unit.status k act ok)
        keeps FreeDue e ok k end runs lt act le = absurd (pool_not_active side x.unit reading v x.unit.status k act ok)
        keeps SeizedDue e ok k end runs lt act le = absurd (by_modes x y
            (λ p q. let h = calm_mark side k x y (inv.calm p q k) v.mine (inl (v, sent, ap is_mark e, refl)) in
            omega arith)
            (λ p. absurd (cc))
            (λ q. let h = inv.ends_x.none_marked q k end runs in omega arith))

  kept_rejects : (v : Update) → With (answered x.unit v RejectReply)
  kept_rejects v = put log (answered x.unit v RejectReply) refl
      (λ p q k. rejects_calm s k side x y p (inv.calm p q k) v) (λ p k. rejects_x side s k x y (inv.marked_x p k) v)
      (λ q k. rejects_y other s k y x (inv.marked_y q k) v)
      (changes_own s now log side x.unit (Says y) y.down y.unit.marked inv.ends_x seen_x
      (answered x.unit v RejectReply) (inl refl) (λ k end runs lt act le. (act, le, omega arith)))
      inv.ends_y inv.past

  pub kept_takes : (reading : ℕ) (v : Update) → reading ≤ now + s.skew → IsIn y.updates v
      → With (after_update side x.unit reading x.waiting v)
  kept_takes reading v near sent = update_cases With side x.waiting x.unit reading v kept
      (λ newer open' ok. kept_accepts reading v near sent newer open' v.status refl ok) (kept_rejects v)

  over_none : (k : Binding) → IsActiveOf x.unit.status k → (due_code x.unit.due ≡ 0)
      ⊎ ((4 ≤ due_code x.unit.due) × (due_code x.unit.due ≤ 5)) → ⊥
  over_none k act over = not_ended _ _ (weaker side _ _ (due_of k)) (code_active k x.unit.status act) over

  kept_settles : (r : BindReply) → IsIn y.replies r → x.unit.marked ≡ false → is_accept r.acknowledgement ≡ true
      → r.of ≡ x.unit.mine → x.unit.seen < r.mine → (d : Status) → x.unit.due ≡ Some d → With (replied d x.unit r)
  kept_settles r sent open' good of newer d is = simply (replied d x.unit r) (mark_is d)
      (λ p q k. settles_calm s k side x y p (inv.calm p q k) r sent good of newer d is)
      (λ p. absurd (cc))
      (λ q k. settles_y other s k y x (inv.marked_y q k) open' r sent good newer d is)
      (mine_is d) (keeps d is) (due_is d is) where
        mark_is : (d : Status) → (replied d x.unit r).marked ≡ x.unit.marked
        mark_is ActiveDue = refl
        mark_is ExpiredDue = refl
        mark_is ReleasedDue = refl
        mark_is BackupDue = refl
        mark_is FreeDue = refl
        mark_is SeizedDue = refl

        mine_is : (d : Status) → ((replied d x.unit r).mine ≡ x.unit.mine)
            ⊎ ((replied d x.unit r).mine ≡ x.unit.mine + 1)
        mine_is ActiveDue = inl refl
        mine_is ExpiredDue = inl refl
        mine_is ReleasedDue = inl refl
        mine_is BackupDue = inl refl
        mine_is FreeDue = inl refl
        mine_is SeizedDue = inl refl

        due_is : (d : Status) → x.unit.due ≡ Some d → (replied d x.unit r).due ≡ Some ReleasedDue → ⊥
        due_is ActiveDue is e = absurd (cc)
        due_is ExpiredDue is e = absurd (cc)
        due_is ReleasedDue is e = absurd (cc)
        due_is BackupDue is e = absurd (cc)
        due_is FreeDue is e = absurd (cc)
        due_is SeizedDue is e = absurd (cc)

        keeps : (d : Status) → x.unit.due ≡ Some d → (k : Binding) (end : ℕ) → Runs s.transit log side k end
            → now < end → IsActiveOf x.unit.status k → end + s.skew ≤ x.unit.own_end
            → IsActiveOf (replied d x.unit r).status k × (end + s.skew ≤ (replied d x.unit r).own_end)
            × (x.unit.acked ≤ (replied d x.unit r).acked)
        keeps ActiveDue is k end runs lt act le = (act, le, omega arith)
        keeps BackupDue is k end runs lt act le = (act, le, omega arith)
        keeps SeizedDue is k end runs lt act le = (act, le, omega arith)
        keeps ExpiredDue is k end runs lt act le = let d : due_code x.unit.due ≡ 4 = ap due_code is in
            absurd (over_none k act (inr (omega arith, omega arith)))
        keeps ReleasedDue is k end runs lt act le = let d : due_code x.unit.due ≡ 5 = ap due_code is in
            absurd (over_none k act (inr (omega arith, omega arith)))
        keeps FreeDue is k end runs lt act le = absurd (over_none k act (inl (ap due_code is)))

  kept_unmarks : (r : BindReply) → IsIn y.replies r → x.unit.marked ≡ true → is_accept r.acknowledgement ≡ true
      → r.of ≡ x.unit.mine → x.unit.seen < r.mine → With (unmarked x.unit r)
  kept_unmarks r sent marked good of newer =
      let u = unmarked x.unit r in
      as_kept side s now log (record x { unit = u }) y (record {
        calm = λ p q k. unmarks_calm s k side x y (inv.marked_x marked k) r sent good of newer;
        marked_x = λ p. absurd (cc);
        marked_y = λ q. absurd (here.one (inr marked) (inr q));
        ends_x = changes_own s now log side x.unit (Says y) y.down y.unit.marked inv.ends_x seen_x u
            (raised_or x.unit x.unit.due) (λ k end runs lt act le. (act, le, omega arith));
        ends_y = told_any s now log other y.unit (Says x) x.down x.unit.marked inv.ends_y
            (Says (record x { unit = u })) false (inv.ends_y.none_marked marked);
        servers = off_less x y here u x.updates x.replies off;
        past = inv.past;
      }) where
        off : IsAlone (record x { unit = unmarked x.unit r }) → IsAlone x
        off (inl d) = inl d
        off (inr m) = absurd (cc)

  pub kept_takes_reply : (r : BindReply) → IsIn y.replies r → With (or_as_was x.unit (after_reply x.unit r))
  kept_takes_reply r sent = reply_cases With x.unit r kept (λ d open' is good of newer.
      kept_settles r sent open' good of newer d is) (λ marked good of newer. kept_unmarks r sent marked good of newer)

  -- where the other's unit is active, what it holds acknowledged was told here
  pub ack_told : IsAckTold side x y
  ack_told act open' outside =
      let j = any_active_is y.unit.status act in
      let codes = active_codes j.0 y.unit.status j.0 j.1 in
      by_bool y.unit.marked
      (λ q. let zero' = (inv.marked_y q j.0).no_ends_x.0 in omega arith)
      (λ q. calm_told side j.0 x y (inv.calm open' q j.0) codes.0 codes.1 outside)

  pub in_time : (d : ℕ) → x.down ≡ Some d → x.unit.marked ≡ false → is_own side x.unit.status ≡ false
      → (k : Binding) (end : ℕ) → Runs s.transit log other k end → now < end
      → end ≤ max x.unit.told d + 1000 * s.mclt + s.skew + s.transit
  in_time d is open' outside k end runs lt =
      let act = (inv.ends_y.own_end k end runs lt).0 in
      let any : status_of y.unit.status ≡ ActiveDue = ap status_of act in
      let told = ack_told any open' outside in
      let lead = inv.ends_y.lead_down d is k end runs lt in
      omega arith

  pub kept_seizes : (reading d : ℕ) → reading ≤ now + s.skew → x.down ≡ Some d → is_own side x.unit.status ≡ false
      → x.unit.own_end ≤ reading
      → takeover x.unit.told d s.mclt s.skew s.transit ≤ reading → With (seized side x.unit)
  kept_seizes reading d near is outside over take =
      let u = seized side x.unit in
      as_kept side s now log (record x { unit = u }) y (record {
        calm = λ p q. absurd (cc);
        marked_x = λ _ k. by_modes x y (λ p q. seizes_calm s k side x y (inv.calm p q k))
            (λ p. seizes_x side s k x y (inv.marked_x p k)) (λ q. absurd (alone q));
        marked_y = λ q. absurd (alone q);
        ends_x = changes_own s now log side x.unit (Says y) y.down y.unit.marked inv.ends_x seen_x u (inr refl)
            (λ k end runs lt act le. absurd (past_end now s.skew reading end x.unit.own_end lt le over near));
        ends_y = mark_other s now log other y.unit _ x.down x.unit.marked
            (told_less s now log other y.unit (Says x) x.down x.unit.marked inv.ends_y (Says (record x { unit = u }))
            (no_release x u (λ e. absurd (cc)))) true (λ _. none);
        servers = off_less x y here u x.updates x.replies (λ _. inl (d, is));
        past = inv.past;
      }) where
        alone : y.unit.marked ≡ true → ⊥
        alone q = here.one (inl (d, is)) (inr q)

        none : (k : Binding) (end : ℕ) → Runs s.transit log other k end → end ≤ now
        none k end runs = by_bool x.unit.marked (λ p. inv.ends_y.none_marked p k end runs)
            (λ p. by_word (cases_lt now end) (λ lt. let t = in_time d is p outside k end runs lt in
            absurd (omega arith)) (λ le. le))

  pub kept_sends_update : (u : Update) → TellsUnit x.unit u
      → KeptFrom side s now log (record x { updates = u ∷ x.updates }) y
  kept_sends_update u telling = as_kept side s now log (record x { updates = u ∷ x.updates }) y (record {
    calm = λ p q k. sends_update_calm s k side x y p (inv.calm p q k) u telling;
    marked_x = λ p k. sends_update_x side s k x y (inv.marked_x p k) u telling;
    marked_y = λ q k. sends_update_y other s k y x (inv.marked_y q k) u telling;
    ends_x = inv.ends_x;
    ends_y = told_less s now log other y.unit (Says x) x.down x.unit.marked inv.ends_y _
        (λ v said r. says_sent x u telling v said);
    servers = off_less x y here x.unit (u ∷ x.updates) x.replies (λ off. off);
    past = inv.past;
  })

  pub kept_sends_reply : (r : BindReply) → x.unit.pending ≡ Some r
      → KeptFrom side s now log (record x { unit = record x.unit { pending = None }; replies = r ∷ x.replies }) y
  kept_sends_reply r is = as_kept side s now log (record x {
    unit = record x.unit { pending = None };
    replies =
        r ∷ x.replies;
  }) y (record {
    calm = λ p q k. sends_reply_calm s k side x y p (inv.calm p q k) r is;
    marked_x = λ p k. sends_reply_x side s k x y (inv.marked_x p k) r is;
    marked_y = λ q k. sends_reply_y other s k y x (inv.marked_y q k) r is;
    ends_x = changes_own s now log side x.unit (Says y) y.down y.unit.marked inv.ends_x seen_x
        (record x.unit { pending = None }) (inl refl) (λ k end runs lt act le. (act, le, omega arith));
    ends_y = inv.ends_y;
    servers = off_less x y here (record x.unit { pending = None }) x.updates (r ∷ x.replies) (λ off. off);
    past = inv.past;
  })

  -- changes that don't touch the unit
  apart : (contacts : List Contact) (down : Option ℕ) (waiting : Bool) (restart asked : ℕ) (stopped : Bool)
      → Servers (record x {
        contacts = contacts;
        down = down;
        waiting = waiting;
        restart = restart;
        asked = asked;
        stopped = stopped;
      }) y
      → RunningGrantsEnd s now log other y.unit (Says x) down x.unit.marked
      → KeptFrom side s now log (record x {
        contacts = contacts;
        down = down;
        waiting = waiting;
        restart = restart;
        asked = asked;
        stopped = stopped;
      }) y
  apart contacts down waiting restart asked stopped servers others =
      as_kept side s now log (record x {
        contacts = contacts;
        down = down;
        waiting = waiting;
        restart = restart;
        asked = asked;
        stopped = stopped;
      }) y (record {
        calm = λ p q k. calm_apart side k x y contacts down waiting restart asked stopped (inv.calm p q k);
        marked_x = inv.marked_x;
        marked_y = inv.marked_y;
        ends_x = inv.ends_x;
        ends_y = others;
        servers = servers;
        past = inv.past;
      })

  pub kept_says : (c : Contact) → MaySay x c → KeptFrom side s now log (record x { contacts = c ∷ x.contacts }) y
  kept_says c may = apart _ _ _ _ _ _ (says x y here c may) inv.ends_y

  pub kept_takes_contact : (c : Contact) → IsIn y.contacts c → KeptFrom side s now log (contacted c x) y
  kept_takes_contact c sent = apart _ _ _ _ _ _ (takes_contact x y here c sent) inv.ends_y

  pub kept_takes_higher : (c : Contact) → IsIn y.contacts c
      → KeptFrom side s now log (record x { asked = asked_by c x.asked }) y
  kept_takes_higher c sent = apart _ _ _ _ _ _ (takes_higher x y here c sent) inv.ends_y

  pub kept_goes_down : (reading : ℕ) → now ≤ reading + s.skew → x.waiting ≡ false → x.stopped ≡ false
      → y.stopped ≡ true → KeptFrom side s now log (record x { down = Some reading }) y
  kept_goes_down reading near waits runs stopped = apart _ _ _ _ _ _ (goes_down x y here reading waits runs stopped)
      (down_other s now log other y.unit (Says x) x.down x.unit.marked inv.ends_y reading near)

  pub kept_goes_up : KeptFrom side s now log (record x { down = None }) y
  kept_goes_up = apart _ _ _ _ _ _ (goes_up x y here)
      (up_other s now log other y.unit (Says x) x.down x.unit.marked inv.ends_y)

  pub kept_stops : KeptFrom side s now log (record x { stopped = true }) y
  kept_stops = apart _ _ _ _ _ _ (stops x y here) inv.ends_y

  pub kept_restarts : KeptFrom side s now log (record x { waiting = true; restart = x.restart + 1; stopped = false }) y
  kept_restarts = apart _ _ _ _ _ _ (restarts x y here) inv.ends_y
