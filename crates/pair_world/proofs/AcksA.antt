-- The primary's steps keep the ends.
use Rattle.std.specs.Prelude.{◌≡◌, ◌≢◌, ℕ, ◌+◌, ◌<◌, ◌≤◌, ◌⊎◌, max}
use Rattle.std.proofs.Common.{arith, inl, inr, refl}
use Rattle.pair_world.specs.Acks.{Acks}
use Rattle.pair_world.specs.Phases.{Phases}
use Rattle.pair_world.proofs.Acks.{ends_active, ends_change}
use Rattle.pair_world.proofs.Phases.{Old, OldReply, by_word}
use Rattle.pair_world.proofs.PhasesA.{over_cases}

module _ (sa ma na da ka ta ea sb mb nb db kb tb eb : ℕ) (UA UB : ℕ → ℕ → ℕ → Type 0) (EA EB : ℕ → ℕ
    → Type 0) (RA RB : ℕ → ℕ → Type 0)
    (inv : Phases sa ma na da sb mb nb db UA UB RA RB)
    (acks : Acks sa ma na da ka ta ea sb mb nb db kb tb eb UA UB EA EB RA RB) where
  -- no reply is to a change that is only now made
  fresh_b : {G : Type 0} (p o : ℕ) → RB p o → o ≡ ma + 1 → G
  fresh_b p o w is = let h = inv.b.sent_r p o w in let k = inv.count_b in absurd (omega arith)

  pub grant_a_ends : (s' ea' : ℕ) (UA' : ℕ → ℕ → ℕ → Type 0) (EA' RA' : ℕ → ℕ → Type 0) → 2 ≤ s' → s' ≤ 3
      → (sa ≡ 0) ⊎ (sa ≡ s')
      → ((c m n : ℕ) → UA' c m n → Old UA c m n s' (ma + 1) na) → ((m e : ℕ) → EA' m e → OldReply EA m e (ma + 1) ea')
      → ((p o : ℕ) → RA' p o → RA p o)
      → Acks s' (ma + 1) na 2 ka ta ea' sb mb nb db kb tb eb UA' UB EA' EB RA' RB
  grant_a_ends s' ea' UA' EA' RA' lo hi guard up en re = record {
    a = ends_active _ _ _ _ _ _ _ _ acks.a _ _ _ _ _ _ _ _ _ (λ c m n w. (inv.a.sent_u c m n w).0) (λ two. (lo, hi))
        (λ le. absurd (omega arith)) up en;
    b = acks.b;
    told_a = λ l h l'. by_word guard (λ z. let x = inv.b_active l h in
        absurd (omega arith)) (λ e. acks.told_a l h (omega arith));
    told_b = λ l h out. by_word guard (λ z. let x = acks.a.no_ends (omega arith) in
        omega arith) (λ e. acks.told_b (omega arith) (omega arith) out);
    acknowledged_a = λ p o w. acks.acknowledged_a p o (re p o w);
    acknowledged_b = λ p o w is. fresh_b p o w is;
    new_active = λ l is l' h. by_word guard (λ z. (acks.a.no_ends (omega arith)).0)
        (λ e. acks.new_active l is (omega arith) (omega arith));
  }

  -- a change of a unit that isn't active then: ended, moved or asked back
  pub change_a_ends : (s' d' : ℕ) (UA' : ℕ → ℕ → ℕ → Type 0) (EA' RA' : ℕ → ℕ → Type 0) → d' ≤ 1 ⊎ (4 ≤ d')
      → (1 ≤ s') × ((s' ≡ 1) ⊎ (4 ≤ s')) → (4 ≤ s' → 1 ≤ sa) → (s' ≡ 1 → sa ≤ 1)
      → ((m e : ℕ) → EA' m e → EA m e) → ((p o : ℕ) → RA' p o → RA p o)
      → Acks s' (ma + 1) na d' ka ta ea sb mb nb db kb tb eb UA' UB EA' EB RA' RB
  change_a_ends s' d' UA' EA' RA' due lo ended free en re = record {
    a = ends_change _ _ _ _ _ _ _ _ acks.a _ _ _ _ _ _ _ _ (omega arith) (λ two. omega arith)
        (λ le. by_word lo.1 (λ one. acks.a.no_ends (free one)) (λ four. absurd (omega arith))) en;
    b = acks.b;
    told_a = λ l h l'. by_word lo.1
        (λ one. let z = free one in let x = inv.b_active l h in acks.told_a l h (omega arith))
        (λ four. acks.told_a l h (ended four));
    told_b = λ l h out. absurd (omega arith);
    acknowledged_a = λ p o w. acks.acknowledged_a p o (re p o w);
    acknowledged_b = λ p o w is. fresh_b p o w is;
    new_active = λ l is l' h. absurd (omega arith);
  }

  pub take_active_a_ends : (cv mv nv ev d' : ℕ) (UA' : ℕ → ℕ → ℕ → Type 0) (EA' RA' : ℕ → ℕ → Type 0) → UB cv mv nv
      → EB mv ev → na < mv → 2 ≤ cv → cv ≤ 3
      → (sa ≡ 1) ⊎ (sa ≡ cv)
      → ((c m n : ℕ) → UA' c m n → Old UA c m n cv (ma + 1) mv) → ((m e : ℕ) → EA' m e → OldReply EA m e (ma + 1) ea)
      → ((p o : ℕ) → RA' p o → OldReply RA p o (ma + 1) mv)
      → Acks cv (ma + 1) mv d' ka (max ta ev) ea sb mb nb db kb tb eb UA' UB EA' EB RA' RB
  take_active_a_ends cv mv nv ev d' UA' EA' RA' v en_v newer lo hi guard up en re = record {
    a = ends_active _ _ _ _ _ _ _ _ acks.a _ _ _ _ _ _ _ _ _ (λ c m n w. (inv.a.sent_u c m n w).0) (λ two. (lo, hi))
        (λ le. absurd (omega arith)) up en;
    b = acks.b;
    told_a = λ l h l'. let x = acks.told_a l h (omega arith) in omega arith;
    told_b = λ l h out. by_word guard (λ z. let x = acks.a.no_ends (omega arith) in
        omega arith) (λ e. acks.told_b (omega arith) (omega arith) out);
    acknowledged_a = λ p o w is two. by_word (re p o w)
        (λ old. let x = acks.acknowledged_a p o old is two in omega arith)
        (λ f. let x = acks.b.last_end mv ev en_v (omega arith) two in omega arith);
    acknowledged_b = λ p o w is. fresh_b p o w is;
    new_active = λ l is l' h. by_word guard (λ z. (acks.a.no_ends (omega arith)).0) (λ e. let x =
        inv.b.last_word (inl l) cv mv nv v is in let y = inv.b.due in absurd (omega arith));
  }

  -- the unit is free then
  freed_a_ends : (m' n' : ℕ) (UA' : ℕ → ℕ → ℕ → Type 0) (EA' RA' : ℕ → ℕ → Type 0) → ma ≤ m' → db ≢ 2
      → ((m e : ℕ) → EA' m e → EA m e)
      → Acks 0 m' n' 9 0 0 0 sb mb nb db kb tb eb UA' UB EA' EB RA' RB
  freed_a_ends m' n' UA' EA' RA' more not_due en = record {
    a = ends_change _ _ _ _ _ _ _ _ acks.a _ _ _ _ _ _ _ _ more (λ two. omega arith) (λ le. (refl, refl)) en;
    b = acks.b;
    told_a = λ l h l'. absurd (omega arith);
    told_b = λ l h out. absurd (omega arith);
    acknowledged_a = λ p o w is two. absurd (not_due two);
    acknowledged_b = λ p o w is two. absurd (omega arith);
    new_active = λ l is l' h. absurd (omega arith);
  }

  pub take_over_a_ends : (cv mv nv : ℕ) (UA' : ℕ → ℕ → ℕ → Type 0) (EA' RA' : ℕ → ℕ → Type 0) → UB cv mv nv → na < mv
      → 4 ≤ cv
      → ((m e : ℕ) → EA' m e → EA m e)
      → Acks 0 (ma + 1) mv 9 0 0 0 sb mb nb db kb tb eb UA' UB EA' EB RA' RB
  take_over_a_ends cv mv nv UA' EA' RA' v newer lo en = freed_a_ends (ma + 1) mv UA' EA' RA' (omega arith)
      (λ two. let y = inv.b.due in over_cases _ _ _ _ _ _ _ _ _ _ _ _ inv cv mv nv v newer lo
      (λ x z. absurd (omega arith)) (λ x z t u. absurd (omega arith))) en

  pub reply_keep_a_ends : (vp vo ka' : ℕ) (UA' : ℕ → ℕ → ℕ → Type 0) (EA' RA' : ℕ → ℕ → Type 0) → RB vp vo → na < vp
      → vo ≡ ma
      → ((ka' ≡ max ka ea) × (da ≡ 2) × (2 ≤ sa)) ⊎ ((ka' ≡ ka) × (sa ≡ 1))
      → ((m e : ℕ) → EA' m e → EA m e) → ((p o : ℕ) → RA' p o → RA p o)
      → Acks sa ma vp 9 ka' ta ea sb mb nb db kb tb eb UA' UB EA' EB RA' RB
  reply_keep_a_ends vp vo ka' UA' EA' RA' v newer of shape en re = record {
    a = ends_change _ _ _ _ _ _ _ _ acks.a _ _ _ _ _ _ _ _ (omega arith) (λ two. omega arith)
        (λ le. by_word shape (λ x. absurd (omega arith)) (λ x. let y = acks.a.no_ends le in
        (omega arith, omega arith))) en;
    b = acks.b;
    told_a = acks.told_a;
    told_b = λ l h out. by_word shape (λ x. let y = acks.acknowledged_b vp vo v of x.1 in
        let z = acks.told_b l h out in let e = x.0 in omega arith) (λ x. absurd (omega arith));
    acknowledged_a = λ p o w. acks.acknowledged_a p o (re p o w);
    acknowledged_b = λ p o w is two. absurd (omega arith);
    new_active = λ l is l' h. let x = inv.b.replies_before (inl l) vp vo v in absurd (omega arith);
  }

  pub reply_free_a_ends : (vp vo : ℕ) (UA' : ℕ → ℕ → ℕ → Type 0) (EA' RA' : ℕ → ℕ → Type 0) → RB vp vo → na < vp
      → vo ≡ ma → (4 ≤ sa) ⊎ ((sa ≡ 1) × (da ≡ 0))
      → ((m e : ℕ) → EA' m e → EA m e)
      → Acks 0 ma vp 9 0 0 0 sb mb nb db kb tb eb UA' UB EA' EB RA' RB
  reply_free_a_ends vp vo UA' EA' RA' v newer of shape en =
      let free : sb ≡ 0 = inv.heard (by_word shape (λ l. inl l) (λ z. inr z.1)) (let h = inv.b.sent_r vp vo v in
      let k = inv.count_b in omega arith) in
      let due = inv.b.due in
      freed_a_ends ma vp UA' EA' RA' (omega arith) (λ two. omega arith) en
