-- The primary's steps keep the phases.
use Rattle.std.specs.Prelude.{◌≡◌, ℕ, ◌+◌, ◌<◌, ◌≤◌, ◌⊎◌}
use Rattle.std.proofs.Common.{arith, inl, inr, refl}
use Rattle.pair_world.specs.Phases.{Due, Ending, Heard, Phases}
use Rattle.pair_world.proofs.Phases.{Old, OldReply, by_word, or_eq, or_le, own_change, own_take, own_settle}

module _ (sa ma na da sb mb nb db : ℕ) (UA UB : ℕ → ℕ → ℕ → Type 0) (RA RB : ℕ → ℕ
    → Type 0) (inv : Phases sa ma na da sb mb nb db UA UB RA RB) where
  pub grant_a : (s' : ℕ) (UA' : ℕ → ℕ → ℕ → Type 0) (RA' : ℕ → ℕ → Type 0) → 2 ≤ s' → s' ≤ 3 → (sa ≡ 0) ⊎ (sa ≡ s')
      → ((c m n : ℕ) → UA' c m n → Old UA c m n s' (ma + 1) na) → ((p o : ℕ) → RA' p o → RA p o)
      → Phases s' (ma + 1) na 2 sb mb nb db UA' UB RA' RB
  grant_a s' UA' RA' lo hi guard up re = record {
    a = own_change _ _ _ _ _ _ _ inv.a _ _ _ _ _ (inr (inr (inl (lo, hi, inr refl)))) (λ e. absurd (omega arith)) up re;
    b = inv.b;
    count_a = inv.count_a;
    count_b = let h = inv.count_b in omega arith;
    heard = λ e is. absurd (omega arith);
    b_backup = λ is. let h = inv.b_backup is in omega arith;
    b_active = λ l h. let x = inv.b_active l h in inr (inl (omega arith));
    b_says_active = λ c m n w new l h. let x = inv.b_says_active c m n w new l h in
        or_eq sb c (λ ne. or_le 4 sb (λ lt. absurd (omega arith)));
    b_says_over = λ c m n w new l. let x = inv.b_says_over c m n w new l in inl (omega arith, omega arith);
    b_silent = inv.b_silent;
    b_reply_last = λ p o w is l. absurd (omega arith);
    a_says_active = λ c m n w new l h. by_word (up c m n w)
        (λ old. let x = inv.a_says_active c m n old new l h in
        or_eq s' c (λ ne. or_le 4 s' (λ lt. (omega arith, omega arith, omega arith))))
        (λ f. inl (omega arith));
    a_says_over = λ c m n w new l. by_word (up c m n w)
        (λ old. let x = inv.a_says_over c m n old new l in inr (omega arith, omega arith, omega arith))
        (λ f. absurd (omega arith));
    a_after_over = λ c m n w new l c' m' n' w' lt. by_word (up c m n w)
        (λ old. by_word (up c' m' n' w') (λ old'. inv.a_after_over c m n old new l c' m' n' old' lt) (λ f. let x =
        inv.a_says_over c m n old new l in omega arith))
        (λ f. absurd (omega arith));
    a_says_backup = λ c m n w is e. by_word (up c m n w) (λ old. let x = inv.a_says_backup c m n old is e in
        omega arith) (λ f. omega arith);
  }

  pub end_a : (s' : ℕ) (UA' : ℕ → ℕ → ℕ → Type 0) (RA' : ℕ → ℕ → Type 0) → 4 ≤ s' → s' ≤ 5 → 2 ≤ sa → sa ≤ 3
      → ((c m n : ℕ) → UA' c m n → Old UA c m n s' (ma + 1) na) → ((p o : ℕ) → RA' p o → RA p o)
      → Phases s' (ma + 1) na s' sb mb nb db UA' UB RA' RB
  end_a s' UA' RA' lo hi least most up re = record {
    a = own_change _ _ _ _ _ _ _ inv.a _ _ _ _ _ (inr (inr (inr (lo, hi, refl)))) (λ e. refl) up re;
    b = inv.b;
    count_a = inv.count_a;
    count_b = let h = inv.count_b in omega arith;
    heard = λ e is. let h = inv.count_b in absurd (omega arith);
    b_backup = λ is. let h = inv.b_backup is in absurd (omega arith);
    b_active = λ l h. inr (inr lo);
    b_says_active = λ c m n w new l h. let x = inv.b_says_active c m n w new l h in
        or_eq sb c (λ ne. or_le 4 sb (λ lt. absurd (omega arith)));
    b_says_over = λ c m n w new l. let x = inv.b_says_over c m n w new l in inl (omega arith, omega arith);
    b_silent = inv.b_silent;
    b_reply_last = λ p o w is l. let h = inv.b.sent_r p o w in let k = inv.count_b in absurd (omega arith);
    a_says_active = λ c m n w new l h. inr (inl lo);
    a_says_over = λ c m n w new l. by_word (up c m n w)
        (λ old. let x = inv.a_says_over c m n old new l in inr (omega arith, omega arith, omega arith))
        (λ f. inl (lo, omega arith));
    a_after_over = λ c m n w new l c' m' n' w' lt. by_word (up c m n w)
        (λ old. by_word (up c' m' n' w') (λ old'. inv.a_after_over c m n old new l c' m' n' old' lt) (λ f. let x =
        inv.a_says_over c m n old new l in omega arith))
        (λ f. by_word (up c' m' n' w') (λ old'. let h = inv.a.sent_u c' m' n' old' in
        absurd (omega arith)) (λ f'. absurd (omega arith)));
    a_says_backup = λ c m n w is e. by_word (up c m n w) (λ old. let x = inv.a_says_backup c m n old is e in
        absurd (omega arith)) (λ f. absurd (omega arith));
  }

  -- the unit is given to the secondary, or asked back
  pub move_a : (s' d' : ℕ) (UA' : ℕ → ℕ → ℕ → Type 0) (RA' : ℕ → ℕ → Type 0) → s' ≡ 1 → sa ≤ 1 → d' ≤ 1 → Due s' d'
      → ((c m n : ℕ) → UA' c m n → Old UA c m n d' (ma + 1) na) → ((p o : ℕ) → RA' p o → RA p o)
      → Phases s' (ma + 1) na d' sb mb nb db UA' UB RA' RB
  move_a s' d' UA' RA' one low told due up re = record {
    a = own_change _ _ _ _ _ _ _ inv.a _ _ _ _ _ due (λ e. refl) up re;
    b = inv.b;
    count_a = inv.count_a;
    count_b = let h = inv.count_b in omega arith;
    heard = λ e is. let h = inv.count_b in absurd (omega arith);
    b_backup = λ is. one;
    b_active = λ l h. inl one;
    b_says_active = λ c m n w new l h. let x = inv.b_says_active c m n w new l h in
        or_eq sb c (λ ne. or_le 4 sb (λ lt. absurd (omega arith)));
    b_says_over = λ c m n w new l. let x = inv.b_says_over c m n w new l in inl (omega arith, omega arith);
    b_silent = inv.b_silent;
    b_reply_last = λ p o w is l. absurd (omega arith);
    a_says_active = λ c m n w new l h. by_word (up c m n w)
        (λ old. let x = inv.a_says_active c m n old new l h in inr (inr (omega arith, omega arith, omega arith)))
        (λ f. absurd (omega arith));
    a_says_over = λ c m n w new l. by_word (up c m n w)
        (λ old. let x = inv.a_says_over c m n old new l in inr (omega arith, omega arith, omega arith))
        (λ f. absurd (omega arith));
    a_after_over = λ c m n w new l c' m' n' w' lt. by_word (up c m n w)
        (λ old. by_word (up c' m' n' w') (λ old'. inv.a_after_over c m n old new l c' m' n' old' lt) (λ f. let x =
        inv.a_says_over c m n old new l in omega arith))
        (λ f. absurd (omega arith));
    a_says_backup = λ c m n w is e. one;
  }

  pub take_active_a : (cv mv nv d' : ℕ) (UA' : ℕ → ℕ → ℕ → Type 0) (RA' : ℕ → ℕ → Type 0) → UB cv mv nv → na < mv
      → 2 ≤ cv → cv ≤ 3
      → (sa ≡ 1) ⊎ (sa ≡ cv) → (d' ≡ 9) ⊎ (d' ≡ 2)
      → ((c m n : ℕ) → UA' c m n → Old UA c m n cv (ma + 1) mv) → ((p o : ℕ) → RA' p o → OldReply RA p o (ma + 1) mv)
      → Phases cv (ma + 1) mv d' sb mb nb db UA' UB RA' RB
  take_active_a cv mv nv d' UA' RA' v newer lo hi guard due up re = let sv = inv.b.sent_u cv mv nv v in
      let says = inv.b_says_active cv mv nv v newer lo hi in record {
        a = own_take _ _ _ _ _ _ _ inv.a _ _ _ _ _ _ newer (inr (inr (inl (lo, hi, due)))) (λ e. omega arith) up re;
        b = inv.b;
        count_a = sv.0;
        count_b = let h = inv.count_b in omega arith;
        heard = λ e is. absurd (omega arith);
        b_backup = λ is. absurd (omega arith);
        b_active = λ l h. inr (inl (omega arith));
        b_says_active = λ c m n w new l h. let x = inv.b_says_active c m n w (omega arith) l h in
            or_eq sb c (λ ne. or_le 4 sb (λ lt. absurd (omega arith)));
        b_says_over = λ c m n w new l. let x = inv.b_says_over c m n w (omega arith) l in
            inl (omega arith, omega arith);
        b_silent = λ c m n w new z. inv.b_silent c m n w (omega arith) z;
        b_reply_last = λ p o w is l. absurd (omega arith);
        a_says_active = λ c m n w new l h. by_word (up c m n w)
            (λ old. let x = inv.a_says_active c m n old new l h in inl (omega arith))
            (λ f. inl (omega arith));
        a_says_over = λ c m n w new l. by_word (up c m n w)
            (λ old. let x = inv.a_says_over c m n old new l in absurd (omega arith))
            (λ f. absurd (omega arith));
        a_after_over = λ c m n w new l c' m' n' w' lt. by_word (up c m n w)
            (λ old. let x = inv.a_says_over c m n old new l in absurd (omega arith))
            (λ f. absurd (omega arith));
        a_says_backup = λ c m n w is e. by_word (up c m n w) (λ old. let h = inv.a.sent_u c m n old in
            absurd (omega arith)) (λ f. absurd (omega arith));
      }

  -- nothing of the secondary's is taken twice, and it has gone free where it heard
  heard_free : Heard sa ma nb → sb ≡ 0
  heard_free h = inv.heard (inl h.0) h.1

  -- where the secondary's word that it is over is new
  pub over_cases : {G : Type 0} (c m n : ℕ) → UB c m n → na < m → 4 ≤ c → (4 ≤ sb → mb ≡ m → G)
      → (4 ≤ sa → nb ≡ ma → sb ≡ 0 → mb ≡ m + 1 → G) → G
  over_cases c m n w new l f g = by_word (inv.b_says_over c m n w new l) (λ x. f x.0 x.1)
      (λ x. g x.0.0 x.0.1 (heard_free x.0) x.1)

  pub take_over_a : (cv mv nv : ℕ) (UA' : ℕ → ℕ → ℕ → Type 0) (RA' : ℕ → ℕ → Type 0) → UB cv mv nv → na < mv → 4 ≤ cv
      → ((c m n : ℕ) → UA' c m n → UA c m n) → ((p o : ℕ) → RA' p o → OldReply RA p o (ma + 1) mv)
      → Phases 0 (ma + 1) mv 9 sb mb nb db UA' UB RA' RB
  take_over_a cv mv nv UA' RA' v newer lo up re = let sv = inv.b.sent_u cv mv nv v in record {
    a = own_take _ _ _ _ _ _ _ inv.a _ _ _ 0 _ _ newer (inl (refl, refl)) (λ e. omega arith)
        (λ c m n w. inl (up c m n w)) re;
    b = inv.b;
    count_a = sv.0;
    count_b = let h = inv.count_b in omega arith;
    heard = λ e is. absurd (omega arith);
    b_backup = λ is. over_cases cv mv nv v newer lo (λ x y. absurd (omega arith)) (λ x y z t. absurd (omega arith));
    b_active = λ l h. over_cases cv mv nv v newer lo (λ x y. absurd (omega arith)) (λ x y z t. absurd (omega arith));
    b_says_active = λ c m n w new l h. over_cases cv mv nv v newer lo (λ x y. inr (inl x)) (λ x y z t. let s =
        inv.b_silent c m n w (omega arith) z in absurd (omega arith));
    b_says_over = λ c m n w new l. over_cases cv mv nv v newer lo
        (λ x y. over_cases c m n w (omega arith) l (λ x' y'. absurd (omega arith))
        (λ x' y' z' t'. absurd (omega arith)))
        (λ x y z t. over_cases c m n w (omega arith) l (λ x' y'. absurd (omega arith))
        (λ x' y' z' t'. absurd (omega arith)));
    b_silent = λ c m n w new z. inv.b_silent c m n w (omega arith) z;
    b_reply_last = λ p o w is l. absurd (omega arith);
    a_says_active = λ c m n w new l h. let s = inv.a.sent_u c m n (up c m n w) in over_cases cv mv nv v newer lo
        (λ x y. inr (inr (x, omega arith, omega arith))) (λ x y z t. absurd (omega arith));
    a_says_over = λ c m n w new l. let s = inv.a.sent_u c m n (up c m n w) in over_cases cv mv nv v newer lo
        (λ x y. inr (x, omega arith, omega arith)) (λ x y z t. absurd (omega arith));
    a_after_over = λ c m n w new l c' m' n' w' lt. let s = inv.a.sent_u c' m' n' (up c' m' n' w') in
        let x = inv.a_says_over c m n (up c m n w) new l in absurd (omega arith);
    a_says_backup = λ c m n w is e. let s = inv.a.sent_u c m n (up c m n w) in absurd (omega arith);
  }

  pub reply_keep_a : (vp vo : ℕ) (UA' : ℕ → ℕ → ℕ → Type 0) (RA' : ℕ → ℕ → Type 0) → RB vp vo → na < vp → vo ≡ ma
      → (sa ≡ 1) ⊎ ((2 ≤ sa) × (sa ≤ 3))
      → ((c m n : ℕ) → UA' c m n → UA c m n) → ((p o : ℕ) → RA' p o → RA p o)
      → Phases sa ma vp 9 sb mb nb db UA' UB RA' RB
  reply_keep_a vp vo UA' RA' v newer of shape up re = let sv = inv.b.sent_r vp vo v in let count = inv.count_b in
      record {
        a = own_settle _ _ _ _ _ _ _ inv.a _ _ _ _ _ newer
            (by_word shape (λ one. inr (inl (one, inl refl))) (λ act. inr (inr (inl (act.0, act.1, inl refl)))))
            (λ e. omega arith) up re;
        b = inv.b;
        count_a = sv.0;
        count_b = inv.count_b;
        heard = λ e is. absurd (omega arith);
        b_backup = inv.b_backup;
        b_active = inv.b_active;
        b_says_active = λ c m n w new l h. inv.b_says_active c m n w (omega arith) l h;
        b_says_over = λ c m n w new l. inv.b_says_over c m n w (omega arith) l;
        b_silent = λ c m n w new z. inv.b_silent c m n w (omega arith) z;
        b_reply_last = inv.b_reply_last;
        a_says_active = λ c m n w new l h. let s = inv.a.sent_u c m n (up c m n w) in absurd (omega arith);
        a_says_over = λ c m n w new l. let s = inv.a.sent_u c m n (up c m n w) in absurd (omega arith);
        a_after_over = λ c m n w new l c' m' n' w' lt. let s = inv.a.sent_u c m n (up c m n w) in absurd (omega arith);
        a_says_backup = λ c m n w is e. let s = inv.a.sent_u c m n (up c m n w) in absurd (omega arith);
      }

  pub reply_free_a : (vp vo : ℕ) (UA' : ℕ → ℕ → ℕ → Type 0) (RA' : ℕ → ℕ → Type 0) → RB vp vo → na < vp → vo ≡ ma
      → (4 ≤ sa) ⊎ ((sa ≡ 1) × (da ≡ 0))
      → ((c m n : ℕ) → UA' c m n → UA c m n) → ((p o : ℕ) → RA' p o → RA p o)
      → Phases 0 ma vp 9 sb mb nb db UA' UB RA' RB
  reply_free_a vp vo UA' RA' v newer of shape up re = let sv = inv.b.sent_r vp vo v in let count = inv.count_b in
      let ending : Ending sa da = by_word shape (λ l. inl l) (λ z. inr z.1) in
      let free : sb ≡ 0 = inv.heard ending (omega arith) in
      let last : 4 ≤ sa → vp ≡ mb = λ l. inv.b_reply_last vp vo v of l in record {
        a = own_settle _ _ _ _ _ _ _ inv.a _ _ _ _ _ newer (inl (refl, refl)) (λ e. omega arith) up re;
        b = inv.b;
        count_a = sv.0;
        count_b = inv.count_b;
        heard = λ e is. absurd (omega arith);
        b_backup = λ is. absurd (omega arith);
        b_active = λ l h. absurd (omega arith);
        b_says_active = λ c m n w new l h. let s = inv.b.sent_u c m n w in by_word shape
            (λ over. let z = last over in absurd (omega arith))
            (λ back. let x = inv.b_says_active c m n w (omega arith) l h in absurd (omega arith));
        b_says_over = λ c m n w new l. let s = inv.b.sent_u c m n w in by_word shape
            (λ over. let z = last over in absurd (omega arith))
            (λ back. let x = inv.b_says_over c m n w (omega arith) l in absurd (omega arith));
        b_silent = λ c m n w new z. inv.b_silent c m n w (omega arith) z;
        b_reply_last = λ p o w is l. absurd (omega arith);
        a_says_active = λ c m n w new l h. let s = inv.a.sent_u c m n (up c m n w) in absurd (omega arith);
        a_says_over = λ c m n w new l. let s = inv.a.sent_u c m n (up c m n w) in absurd (omega arith);
        a_after_over = λ c m n w new l c' m' n' w' lt. let s = inv.a.sent_u c m n (up c m n w) in absurd (omega arith);
        a_says_backup = λ c m n w is e. let s = inv.a.sent_u c m n (up c m n w) in absurd (omega arith);
      }
