-- The secondary's steps keep the ends.
use Rattle.std.specs.Prelude.{◌≡◌, ℕ, ◌+◌, ◌<◌, ◌≤◌, ◌⊎◌, max}
use Rattle.std.proofs.Common.{arith, inl, inr, refl}
use Rattle.pair_world.specs.Acks.{Acks}
use Rattle.pair_world.specs.Phases.{Phases}
use Rattle.pair_world.proofs.Acks.{ends_active, ends_change}
use Rattle.pair_world.proofs.Phases.{Old, OldReply, by_word, or_eq}
use Rattle.pair_world.proofs.PhasesB.{over_cases}

or_zero : (x : ℕ) → x ≤ 1 → (x ≡ 1 → ⊥) → x ≡ 0
or_zero x le not_one = by_word (or_eq x 0 (λ ne. absurd (not_one (omega arith)))) (λ e. e) (λ e. absurd e)

module _ (sa ma na da ka ta ea sb mb nb db kb tb eb : ℕ) (UA UB : ℕ → ℕ → ℕ → Type 0) (EA EB : ℕ → ℕ
    → Type 0) (RA RB : ℕ → ℕ → Type 0)
    (inv : Phases sa ma na da sb mb nb db UA UB RA RB)
    (acks : Acks sa ma na da ka ta ea sb mb nb db kb tb eb UA UB EA EB RA RB) where
  -- no reply is to a change that is only now made
  fresh_a : {G : Type 0} (p o : ℕ) → RA p o → o ≡ mb + 1 → G
  fresh_a p o w is = let h = inv.a.sent_r p o w in let k = inv.count_a in absurd (omega arith)

  -- a reply to the primary's last change, made only now
  old_b : {G : Type 0} (c m n p o : ℕ) → UA c m n → nb < m → RB p o → o ≡ ma → G
  old_b c m n p o v newer w is = let h = inv.b.sent_r p o w in let k = inv.a.sent_u c m n v in absurd (omega arith)

  pub grant_b_ends : (s' eb' : ℕ) (UB' : ℕ → ℕ → ℕ → Type 0) (EB' RB' : ℕ → ℕ → Type 0) → 2 ≤ s' → s' ≤ 3
      → (sb ≡ 1) ⊎ (sb ≡ s')
      → ((c m n : ℕ) → UB' c m n → Old UB c m n s' (mb + 1) nb) → ((m e : ℕ) → EB' m e → OldReply EB m e (mb + 1) eb')
      → ((p o : ℕ) → RB' p o → RB p o)
      → Acks sa ma na da ka ta ea s' (mb + 1) nb 2 kb tb eb' UA UB' EA EB' RA RB'
  grant_b_ends s' eb' UB' EB' RB' lo hi guard up en re = record {
    a = acks.a;
    b = ends_active _ _ _ _ _ _ _ _ acks.b _ _ _ _ _ _ _ _ _ (λ c m n w. (inv.b.sent_u c m n w).0) (λ two. (lo, hi))
        (λ le. absurd (omega arith)) up en;
    told_a = λ l h l'. by_word guard (λ z. let x = acks.b.no_ends (omega arith) in
        omega arith) (λ e. acks.told_a (omega arith) (omega arith) l');
    told_b = λ l h out. by_word guard (λ z. let x = inv.b_backup z in
        absurd (omega arith)) (λ e. acks.told_b l h (inr (omega arith)));
    acknowledged_a = λ p o w is. fresh_a p o w is;
    acknowledged_b = λ p o w. acks.acknowledged_b p o (re p o w);
    new_active = λ l is l' h. absurd (omega arith);
  }

  pub end_b_ends : (s' d' : ℕ) (UB' : ℕ → ℕ → ℕ → Type 0) (EB' RB' : ℕ → ℕ → Type 0) → 4 ≤ d' → 4 ≤ s' → 2 ≤ sb → sb ≤ 3
      → ((m e : ℕ) → EB' m e → EB m e) → ((p o : ℕ) → RB' p o → RB p o)
      → Acks sa ma na da ka ta ea s' (mb + 1) nb d' kb tb eb UA UB' EA EB' RA RB'
  end_b_ends s' d' UB' EB' RB' due lo least most en re = record {
    a = acks.a;
    b = ends_change _ _ _ _ _ _ _ _ acks.b _ _ _ _ _ _ _ _ (omega arith) (λ two. omega arith)
        (λ le. absurd (omega arith)) en;
    told_a = λ l h l'. absurd (omega arith);
    told_b = λ l h out. acks.told_b l h (inr least);
    acknowledged_a = λ p o w is. fresh_a p o w is;
    acknowledged_b = λ p o w. acks.acknowledged_b p o (re p o w);
    new_active = λ l is l' h. let k = inv.count_a in absurd (omega arith);
  }

  pub take_active_b_ends : (cv mv nv ev d' : ℕ) (UB' : ℕ → ℕ → ℕ → Type 0) (EB' RB' : ℕ → ℕ → Type 0) → UA cv mv nv
      → EA mv ev → nb < mv → 2 ≤ cv → cv ≤ 3
      → (sb ≡ 0) ⊎ (sb ≡ cv)
      → ((c m n : ℕ) → UB' c m n → Old UB c m n cv (mb + 1) mv) → ((m e : ℕ) → EB' m e → OldReply EB m e (mb + 1) eb)
      → ((p o : ℕ) → RB' p o → OldReply RB p o (mb + 1) mv)
      → Acks sa ma na da ka ta ea cv (mb + 1) mv d' kb (max tb ev) eb UA UB' EA EB' RA RB'
  take_active_b_ends cv mv nv ev d' UB' EB' RB' v en_v newer lo hi guard up en re = record {
    a = acks.a;
    b = ends_active _ _ _ _ _ _ _ _ acks.b _ _ _ _ _ _ _ _ _ (λ c m n w. (inv.b.sent_u c m n w).0) (λ two. (lo, hi))
        (λ le. absurd (omega arith)) up en;
    told_a = λ l h l'. by_word guard (λ z. let x = acks.b.no_ends (omega arith) in
        omega arith) (λ e. acks.told_a (omega arith) (omega arith) l');
    told_b = λ l h out. let x = acks.told_b l h (by_word guard (λ z. inl z) (λ e. inr (omega arith))) in omega arith;
    acknowledged_a = λ p o w is. fresh_a p o w is;
    acknowledged_b = λ p o w is two. by_word (re p o w)
        (λ old. let x = acks.acknowledged_b p o old is two in omega arith)
        (λ f. let x = acks.a.last_end mv ev en_v (omega arith) two in omega arith);
    new_active = λ l is l' h. absurd (omega arith);
  }

  -- the unit is free then, by the primary's word that it is over, or by its word free
  freed_b_ends : (cv mv nv : ℕ) (UB' : ℕ → ℕ → ℕ → Type 0) (EB' RB' : ℕ → ℕ → Type 0) → UA cv mv nv → nb < mv
      → (cv ≤ 1) ⊎ (4 ≤ cv)
      → (2 ≤ sa → sa ≤ 3 → ka ≡ 0)
      → ((m e : ℕ) → EB' m e → EB m e) → ((p o : ℕ) → RB' p o → OldReply RB p o (mb + 1) mv)
      → Acks sa ma na da ka ta ea 0 (mb + 1) mv 9 0 0 0 UA UB' EA EB' RA RB'
  freed_b_ends cv mv nv UB' EB' RB' v newer other zero_a en re = record {
    a = acks.a;
    b = ends_change _ _ _ _ _ _ _ _ acks.b _ _ _ _ _ _ _ _ (omega arith) (λ two. omega arith) (λ le. (refl, refl)) en;
    told_a = λ l h l'. absurd (omega arith);
    told_b = λ l h out. let x = zero_a l h in omega arith;
    acknowledged_a = λ p o w is two. absurd (omega arith);
    acknowledged_b = λ p o w is two. by_word (re p o w)
        (λ old. old_b cv mv nv p o v newer old is)
        (λ f. let x = acks.a.last_active cv mv nv v (omega arith) two in absurd (omega arith));
    new_active = λ l is l' h. absurd (omega arith);
  }

  pub take_over_b_ends : (cv mv nv : ℕ) (UB' : ℕ → ℕ → ℕ → Type 0) (EB' RB' : ℕ → ℕ → Type 0) → UA cv mv nv → nb < mv
      → 4 ≤ cv
      → ((m e : ℕ) → EB' m e → EB m e) → ((p o : ℕ) → RB' p o → OldReply RB p o (mb + 1) mv)
      → Acks sa ma na da ka ta ea 0 (mb + 1) mv 9 0 0 0 UA UB' EA EB' RA RB'
  take_over_b_ends cv mv nv UB' EB' RB' v newer lo en re = freed_b_ends cv mv nv UB' EB' RB' v newer (inr lo)
      (λ l h. over_cases _ _ _ _ _ _ _ _ _ _ _ _ inv cv mv nv v newer lo (λ x y. absurd (omega arith))
      (λ x y z. acks.new_active x y l h)) en re

  pub take_free_b_ends : (cv mv nv : ℕ) (UB' : ℕ → ℕ → ℕ → Type 0) (EB' RB' : ℕ → ℕ → Type 0) → UA cv mv nv → nb < mv
      → cv ≤ 1 → sb ≤ 1
      → ((m e : ℕ) → EB' m e → EB m e) → ((p o : ℕ) → RB' p o → OldReply RB p o (mb + 1) mv)
      → Acks sa ma na da ka ta ea 0 (mb + 1) mv 9 0 0 0 UA UB' EA EB' RA RB'
  take_free_b_ends cv mv nv UB' EB' RB' v newer lo low en re = freed_b_ends cv mv nv UB' EB' RB' v newer (inl lo)
      (λ l h. let z = acks.b.no_ends low in let x =
      acks.told_b l h (inl (or_zero sb low (λ one. let y = inv.b_backup one in absurd (omega arith)))) in
      omega arith) en re

  pub take_backup_b_ends : (mv nv d' : ℕ) (UB' : ℕ → ℕ → ℕ → Type 0) (EB' RB' : ℕ → ℕ → Type 0) → UA 1 mv nv → nb < mv
      → sb ≡ 0 → d' ≡ 9
      → ((m e : ℕ) → EB' m e → EB m e) → ((p o : ℕ) → RB' p o → OldReply RB p o (mb + 1) mv)
      → Acks sa ma na da ka ta ea 1 (mb + 1) mv d' kb tb eb UA UB' EA EB' RA RB'
  take_backup_b_ends mv nv d' UB' EB' RB' v newer free none en re = record {
    a = acks.a;
    b = ends_change _ _ _ _ _ _ _ _ acks.b _ _ _ _ _ _ _ _ (omega arith) (λ two. omega arith)
        (λ le. acks.b.no_ends (omega arith)) en;
    told_a = λ l h l'. absurd (omega arith);
    told_b = λ l h out. absurd (omega arith);
    acknowledged_a = λ p o w is two. absurd (omega arith);
    acknowledged_b = λ p o w is two. by_word (re p o w)
        (λ old. old_b 1 mv nv p o v newer old is)
        (λ f. let x = acks.a.last_active 1 mv nv v (omega arith) two in absurd (omega arith));
    new_active = λ l is l' h. absurd (omega arith);
  }

  pub reply_keep_b_ends : (vp vo : ℕ) (UB' : ℕ → ℕ → ℕ → Type 0) (EB' RB' : ℕ → ℕ → Type 0) → RA vp vo → nb < vp
      → vo ≡ mb → db ≡ 2 → 2 ≤ sb → sb ≤ 3
      → ((m e : ℕ) → EB' m e → EB m e) → ((p o : ℕ) → RB' p o → RB p o)
      → Acks sa ma na da ka ta ea sb mb vp 9 (max kb eb) tb eb UA UB' EA EB' RA RB'
  reply_keep_b_ends vp vo UB' EB' RB' v newer of due lo hi en re = record {
    a = acks.a;
    b = ends_change _ _ _ _ _ _ _ _ acks.b _ _ _ _ _ _ _ _ (omega arith) (λ two. omega arith)
        (λ le. absurd (omega arith)) en;
    told_a = λ l h l'. let x = acks.told_a l h l' in let y = acks.acknowledged_a vp vo v of due in omega arith;
    told_b = acks.told_b;
    acknowledged_a = λ p o w is two. absurd (omega arith);
    acknowledged_b = λ p o w. acks.acknowledged_b p o (re p o w);
    new_active = acks.new_active;
  }

  pub reply_free_b_ends : (vp vo : ℕ) (UB' : ℕ → ℕ → ℕ → Type 0) (EB' RB' : ℕ → ℕ → Type 0) → RA vp vo → nb < vp
      → vo ≡ mb → 4 ≤ sb
      → ((m e : ℕ) → EB' m e → EB m e) → ((p o : ℕ) → RB' p o → RB p o)
      → Acks sa ma na da ka ta ea 0 mb vp 9 0 0 0 UA UB' EA EB' RA RB'
  reply_free_b_ends vp vo UB' EB' RB' v newer of lo en re =
      let h = inv.a.sent_r vp vo v in
      let k = inv.count_a in record {
        a = acks.a;
        b = ends_change _ _ _ _ _ _ _ _ acks.b _ _ _ _ _ _ _ _ (omega arith) (λ two. omega arith)
            (λ le. (refl, refl)) en;
        told_a = λ l h' l'. absurd (omega arith);
        told_b = λ l h' out. let x = acks.new_active lo (omega arith) l h' in omega arith;
        acknowledged_a = λ p o w is two. absurd (omega arith);
        acknowledged_b = λ p o w is two. let x = inv.b.sent_r p o (re p o w) in absurd (omega arith);
        new_active = λ l is l' h'. absurd (omega arith);
      }
