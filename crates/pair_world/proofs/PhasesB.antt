-- The secondary's steps keep the phases.
use Rattle.std.specs.Prelude.{◌≡◌, ℕ, ◌+◌, ◌<◌, ◌≤◌, ◌⊎◌}
use Rattle.std.proofs.Common.{arith, inl, inr, refl}
use Rattle.pair_world.specs.Phases.{Ending, Gone, Phases}
use Rattle.pair_world.proofs.Phases.{Old, OldReply, by_word, or_eq, own_change, own_take, own_settle}

module _ (sa ma na da sb mb nb db : ℕ) (UA UB : ℕ → ℕ → ℕ → Type 0) (RA RB : ℕ → ℕ
    → Type 0) (inv : Phases sa ma na da sb mb nb db UA UB RA RB) where
  -- where the secondary isn't free, the primary's end is news to it
  not_heard : {G : Type 0} → 1 ≤ sb → 4 ≤ sa → nb ≡ ma → G
  not_heard busy l e = let z = inv.heard (inl l) e in absurd (omega arith)

  over_b : {G : Type 0} (c m n : ℕ) → UB c m n → na < m → 4 ≤ c → 1 ≤ sb → sb ≤ 3 → G
  over_b c m n w new l lo hi = by_word (inv.b_says_over c m n w new l) (λ x. absurd (omega arith))
      (λ x. not_heard lo x.0.0 x.0.1)

  active_b : (c m n : ℕ) → UB c m n → na < m → 2 ≤ c → c ≤ 3 → 1 ≤ sb → sb ≤ 3 → sb ≡ c
  active_b c m n w new l h lo hi = by_word (inv.b_says_active c m n w new l h) (λ x. x)
      (λ y. by_word y (λ x. absurd (omega arith)) (λ x. not_heard lo x.0 x.1))

  -- the primary's words while the secondary hasn't ended
  active_a : (s' m' : ℕ) (c m n : ℕ) → UA c m n → nb < m → 2 ≤ c → c ≤ 3 → sb ≤ 3
      → (sa ≡ c) ⊎ ((4 ≤ sa) ⊎ Gone na s' m' n)
  active_a s' m' c m n w new l h hi = by_word (inv.a_says_active c m n w new l h) (λ x. inl x)
      (λ y. by_word y (λ x. inr (inl x)) (λ x. absurd (omega arith)))

  over_a : (s' m' : ℕ) (c m n : ℕ) → UA c m n → nb < m → 4 ≤ c → sb ≤ 3 → ((4 ≤ sa) × (ma ≡ m)) ⊎ Gone na s' m' n
  over_a s' m' c m n w new l hi = by_word (inv.a_says_over c m n w new l) (λ x. inl x) (λ x. absurd (omega arith))

  last_over : {G : Type 0} (c m n : ℕ) → UA c m n → nb < m → 4 ≤ c → sb ≤ 3 → (c' m' n' : ℕ) → UA c' m' n' → m < m' → G
  last_over c m n w new l hi c' m' n' w' lt = let s = inv.a.sent_u c' m' n' w' in
      by_word (inv.a_says_over c m n w new l) (λ x. absurd (omega arith)) (λ x. absurd (omega arith))

  not_seen : {G : Type 0} (c m n : ℕ) → UA c m n → n ≡ mb + 1 → G
  not_seen c m n w e = let s = inv.a.sent_u c m n w in let k = inv.count_a in absurd (omega arith)

  ending_due : (d : ℕ) → Ending sa da → d ≡ da → (4 ≤ d) ⊎ (d ≡ 0)
  ending_due d e is = let due = inv.a.due in by_word e (λ l. inl (omega arith)) (λ z. inr (omega arith))

  pub grant_b : (s' : ℕ) (UB' : ℕ → ℕ → ℕ → Type 0) (RB' : ℕ → ℕ → Type 0) → 2 ≤ s' → s' ≤ 3 → (sb ≡ 1) ⊎ (sb ≡ s')
      → ((c m n : ℕ) → UB' c m n → Old UB c m n s' (mb + 1) nb) → ((p o : ℕ) → RB' p o → RB p o)
      → Phases sa ma na da s' (mb + 1) nb 2 UA UB' RA RB'
  grant_b s' UB' RB' lo hi guard up re = let low : 1 ≤ sb = omega arith in let high : sb ≤ 3 = omega arith in record {
    a = inv.a;
    b = own_change _ _ _ _ _ _ _ inv.b _ _ _ _ _ (inr (inr (inl (lo, hi, inr refl)))) (λ e. absurd (omega arith)) up re;
    count_a = let h = inv.count_a in omega arith;
    count_b = inv.count_b;
    heard = λ e is. let z = inv.heard e is in absurd (omega arith);
    b_backup = λ is. absurd (omega arith);
    b_active = λ l h. by_word guard
        (λ one. inl (inv.b_backup one))
        (λ same. let x = inv.b_active (omega arith) (omega arith) in
        or_eq sa 1 (λ n1. or_eq sa s' (λ n2. omega arith)));
    b_says_active = λ c m n w new l h. by_word (up c m n w)
        (λ old. let x = active_b c m n old new l h low high in inl (omega arith))
        (λ f. inl (omega arith));
    b_says_over = λ c m n w new l. by_word (up c m n w) (λ old. over_b c m n old new l low high)
        (λ f. absurd (omega arith));
    b_silent = λ c m n w new z. absurd (omega arith);
    b_reply_last = λ p o w is l. let h = inv.b.sent_r p o (re p o w) in let k = inv.count_b in
        not_heard low l (omega arith);
    a_says_active = λ c m n w new l h. active_a s' (mb + 1) c m n w new l h high;
    a_says_over = λ c m n w new l. over_a s' (mb + 1) c m n w new l high;
    a_after_over = λ c m n w new l c' m' n' w' lt. last_over c m n w new l high c' m' n' w' lt;
    a_says_backup = λ c m n w is e. not_seen c m n w e;
  }

  pub end_b : (s' : ℕ) (UB' : ℕ → ℕ → ℕ → Type 0) (RB' : ℕ → ℕ → Type 0) → 4 ≤ s' → s' ≤ 5 → 2 ≤ sb → sb ≤ 3
      → ((c m n : ℕ) → UB' c m n → Old UB c m n s' (mb + 1) nb) → ((p o : ℕ) → RB' p o → RB p o)
      → Phases sa ma na da s' (mb + 1) nb s' UA UB' RA RB'
  end_b s' UB' RB' lo hi least high up re = let low : 1 ≤ sb = omega arith in record {
    a = inv.a;
    b = own_change _ _ _ _ _ _ _ inv.b _ _ _ _ _ (inr (inr (inr (lo, hi, refl)))) (λ e. refl) up re;
    count_a = let h = inv.count_a in omega arith;
    count_b = inv.count_b;
    heard = λ e is. let z = inv.heard e is in absurd (omega arith);
    b_backup = λ is. absurd (omega arith);
    b_active = λ l h. absurd (omega arith);
    b_says_active = λ c m n w new l h. inr (inl lo);
    b_says_over = λ c m n w new l. by_word (up c m n w) (λ old. over_b c m n old new l low high)
        (λ f. inl (lo, omega arith));
    b_silent = λ c m n w new z. absurd (omega arith);
    b_reply_last = λ p o w is l. let h = inv.b.sent_r p o (re p o w) in let k = inv.count_b in
        not_heard low l (omega arith);
    a_says_active = λ c m n w new l h. active_a s' (mb + 1) c m n w new l h high;
    a_says_over = λ c m n w new l. over_a s' (mb + 1) c m n w new l high;
    a_after_over = λ c m n w new l c' m' n' w' lt. last_over c m n w new l high c' m' n' w' lt;
    a_says_backup = λ c m n w is e. not_seen c m n w e;
  }

  pub take_active_b : (cv mv nv d' : ℕ) (UB' : ℕ → ℕ → ℕ → Type 0) (RB' : ℕ → ℕ → Type 0) → UA cv mv nv → nb < mv
      → 2 ≤ cv → cv ≤ 3
      → (sb ≡ 0) ⊎ (sb ≡ cv) → (d' ≡ 9) ⊎ (d' ≡ 2)
      → ((c m n : ℕ) → UB' c m n → Old UB c m n cv (mb + 1) mv) → ((p o : ℕ) → RB' p o → OldReply RB p o (mb + 1) mv)
      → Phases sa ma na da cv (mb + 1) mv d' UA UB' RA RB'
  take_active_b cv mv nv d' UB' RB' v newer lo hi guard due up re = let sv = inv.a.sent_u cv mv nv v in
      let high : sb ≤ 3 = omega arith in record {
        a = inv.a;
        b = own_take _ _ _ _ _ _ _ inv.b _ _ _ _ _ _ newer (inr (inr (inl (lo, hi, due)))) (λ e. omega arith) up re;
        count_a = let h = inv.count_a in omega arith;
        count_b = sv.0;
        heard = λ e is. let x = ending_due cv e (inv.a.last_word e cv mv nv v is) in absurd (omega arith);
        b_backup = λ is. absurd (omega arith);
        b_active = λ l h. by_word (active_a 0 0 cv mv nv v newer lo hi high) (λ x. inr (inl x))
            (λ y. by_word y (λ x. inr (inr x)) (λ x. absurd (omega arith)));
        b_says_active = λ c m n w new l h. by_word (up c m n w)
            (λ old. let x = inv.b_says_active c m n old new l h in inl (omega arith))
            (λ f. inl (omega arith));
        b_says_over = λ c m n w new l. by_word (up c m n w) (λ old. let x = inv.b_says_over c m n old new l in
            absurd (omega arith)) (λ f. absurd (omega arith));
        b_silent = λ c m n w new z. absurd (omega arith);
        b_reply_last = λ p o w is l. by_word (re p o w) (λ old. let h = inv.b.sent_r p o old in
            absurd (omega arith)) (λ f. omega arith);
        a_says_active = λ c m n w new l h. active_a cv (mb + 1) c m n w (omega arith) l h high;
        a_says_over = λ c m n w new l. over_a cv (mb + 1) c m n w (omega arith) l high;
        a_after_over = λ c m n w new l c' m' n' w' lt. last_over c m n w (omega arith) l high c' m' n' w' lt;
        a_says_backup = λ c m n w is e. not_seen c m n w e;
      }

  -- where the primary's word that it is over is new
  pub over_cases : {G : Type 0} (c m n : ℕ) → UA c m n → nb < m → 4 ≤ c → (4 ≤ sa → ma ≡ m → G)
      → (4 ≤ sb → na ≡ mb → n < mb → G) → G
  over_cases c m n w new l f g = by_word (inv.a_says_over c m n w new l) (λ x. f x.0 x.1) (λ x. g x.0 x.1 x.2)

  pub take_over_b : (cv mv nv : ℕ) (UB' : ℕ → ℕ → ℕ → Type 0) (RB' : ℕ → ℕ → Type 0) → UA cv mv nv → nb < mv → 4 ≤ cv
      → ((c m n : ℕ) → UB' c m n → UB c m n) → ((p o : ℕ) → RB' p o → OldReply RB p o (mb + 1) mv)
      → Phases sa ma na da 0 (mb + 1) mv 9 UA UB' RA RB'
  take_over_b cv mv nv UB' RB' v newer lo up re = let sv = inv.a.sent_u cv mv nv v in record {
    a = inv.a;
    b = own_take _ _ _ _ _ _ _ inv.b _ _ _ 0 _ _ newer (inl (refl, refl)) (λ e. omega arith)
        (λ c m n w. inl (up c m n w)) re;
    count_a = let h = inv.count_a in omega arith;
    count_b = sv.0;
    heard = λ e is. refl;
    b_backup = λ is. absurd (omega arith);
    b_active = λ l h. absurd (omega arith);
    b_says_active = λ c m n w new l h. let s = inv.b.sent_u c m n (up c m n w) in over_cases cv mv nv v newer lo
        (λ x y. inr (inr (x, omega arith))) (λ x y z. absurd (omega arith));
    b_says_over = λ c m n w new l. let s = inv.b.sent_u c m n (up c m n w) in over_cases cv mv nv v newer lo
        (λ x y. by_word (inv.b_says_over c m n (up c m n w) new l) (λ t. inr ((x, omega arith), omega arith))
        (λ t. absurd (omega arith)))
        (λ x y z. absurd (omega arith));
    b_silent = λ c m n w new z. let s = inv.b.sent_u c m n (up c m n w) in omega arith;
    b_reply_last = λ p o w is l. by_word (re p o w) (λ old. let h = inv.b.sent_r p o old in
        absurd (omega arith)) (λ f. omega arith);
    a_says_active = λ c m n w new l h. by_word (inv.a_says_active c m n w (omega arith) l h)
        (λ x. inl x) (λ y. by_word y (λ x. inr (inl x)) (λ x. let z =
        inv.a_after_over cv mv nv v newer lo c m n w new in absurd (omega arith)));
    a_says_over = λ c m n w new l. by_word (inv.a_says_over c m n w (omega arith) l)
        (λ x. inl x) (λ x. let z = inv.a_after_over cv mv nv v newer lo c m n w new in absurd (omega arith));
    a_after_over = λ c m n w new l c' m' n' w' lt. let s = inv.a.sent_u c' m' n' w' in
        by_word (inv.a_says_over c m n w (omega arith) l)
        (λ x. absurd (omega arith)) (λ x. let z = inv.a_after_over cv mv nv v newer lo c m n w new in
        absurd (omega arith));
    a_says_backup = λ c m n w is e. not_seen c m n w e;
  }

  pub take_backup_b : (mv nv d' : ℕ) (UB' : ℕ → ℕ → ℕ → Type 0) (RB' : ℕ → ℕ → Type 0) → UA 1 mv nv → nb < mv → nv ≡ mb
      → sb ≡ 0 → d' ≡ 9
      → ((c m n : ℕ) → UB' c m n → UB c m n) → ((p o : ℕ) → RB' p o → OldReply RB p o (mb + 1) mv)
      → Phases sa ma na da 1 (mb + 1) mv d' UA UB' RA RB'
  take_backup_b mv nv d' UB' RB' v newer knows guard none up re = let sv = inv.a.sent_u 1 mv nv v in
      let one : sa ≡ 1 = inv.a_says_backup 1 mv nv v refl knows in let high : sb ≤ 3 = omega arith in record {
        a = inv.a;
        b = own_take _ _ _ _ _ _ _ inv.b _ _ _ 0 _ _ newer (inr (inl (refl, none))) (λ e. omega arith)
            (λ c m n w. inl (up c m n w)) re;
        count_a = let h = inv.count_a in omega arith;
        count_b = sv.0;
        heard = λ e is. let x = ending_due 1 e (inv.a.last_word e 1 mv nv v is) in absurd (omega arith);
        b_backup = λ is. one;
        b_active = λ l h. absurd (omega arith);
        b_says_active = λ c m n w new l h. let s = inv.b.sent_u c m n (up c m n w) in absurd (omega arith);
        b_says_over = λ c m n w new l. let s = inv.b.sent_u c m n (up c m n w) in absurd (omega arith);
        b_silent = λ c m n w new z. absurd (omega arith);
        b_reply_last = λ p o w is l. absurd (omega arith);
        a_says_active = λ c m n w new l h. active_a 1 (mb + 1) c m n w (omega arith) l h high;
        a_says_over = λ c m n w new l. over_a 1 (mb + 1) c m n w (omega arith) l high;
        a_after_over = λ c m n w new l c' m' n' w' lt. last_over c m n w (omega arith) l high c' m' n' w' lt;
        a_says_backup = λ c m n w is e. not_seen c m n w e;
      }

  pub take_free_b : (cv mv nv : ℕ) (UB' : ℕ → ℕ → ℕ → Type 0) (RB' : ℕ → ℕ → Type 0) → UA cv mv nv → nb < mv → sb ≤ 1
      → ((c m n : ℕ) → UB' c m n → UB c m n) → ((p o : ℕ) → RB' p o → OldReply RB p o (mb + 1) mv)
      → Phases sa ma na da 0 (mb + 1) mv 9 UA UB' RA RB'
  take_free_b cv mv nv UB' RB' v newer guard up re = let sv = inv.a.sent_u cv mv nv v in
      let high : sb ≤ 3 = omega arith in record {
        a = inv.a;
        b = own_take _ _ _ _ _ _ _ inv.b _ _ _ 0 _ _ newer (inl (refl, refl)) (λ e. omega arith)
            (λ c m n w. inl (up c m n w)) re;
        count_a = let h = inv.count_a in omega arith;
        count_b = sv.0;
        heard = λ e is. refl;
        b_backup = λ is. absurd (omega arith);
        b_active = λ l h. absurd (omega arith);
        b_says_active = λ c m n w new l h. let x = inv.b_says_active c m n (up c m n w) new l h in absurd (omega arith);
        b_says_over = λ c m n w new l. let x = inv.b_says_over c m n (up c m n w) new l in absurd (omega arith);
        b_silent = λ c m n w new z. let s = inv.b.sent_u c m n (up c m n w) in omega arith;
        b_reply_last = λ p o w is l. by_word (re p o w) (λ old. let h = inv.b.sent_r p o old in
            absurd (omega arith)) (λ f. omega arith);
        a_says_active = λ c m n w new l h. active_a 0 (mb + 1) c m n w (omega arith) l h high;
        a_says_over = λ c m n w new l. over_a 0 (mb + 1) c m n w (omega arith) l high;
        a_after_over = λ c m n w new l c' m' n' w' lt. last_over c m n w (omega arith) l high c' m' n' w' lt;
        a_says_backup = λ c m n w is e. not_seen c m n w e;
      }

  pub reply_keep_b : (vp vo : ℕ) (UB' : ℕ → ℕ → ℕ → Type 0) (RB' : ℕ → ℕ → Type 0) → RA vp vo → nb < vp → vo ≡ mb
      → 2 ≤ sb → sb ≤ 3
      → ((c m n : ℕ) → UB' c m n → UB c m n) → ((p o : ℕ) → RB' p o → RB p o)
      → Phases sa ma na da sb mb vp 9 UA UB' RA RB'
  reply_keep_b vp vo UB' RB' v newer of least most up re = let sv = inv.a.sent_r vp vo v in record {
    a = inv.a;
    b = own_settle _ _ _ _ _ _ _ inv.b _ _ _ _ _ newer (inr (inr (inl (least, most, inl refl))))
        (λ e. omega arith) up re;
    count_a = inv.count_a;
    count_b = sv.0;
    heard = λ e is. let x = inv.a.replies_before e vp vo v in absurd (omega arith);
    b_backup = inv.b_backup;
    b_active = inv.b_active;
    b_says_active = λ c m n w new l h. let s = inv.b.sent_u c m n (up c m n w) in absurd (omega arith);
    b_says_over = λ c m n w new l. let s = inv.b.sent_u c m n (up c m n w) in absurd (omega arith);
    b_silent = λ c m n w new z. absurd (omega arith);
    b_reply_last = λ p o w is l. let h = inv.b.sent_r p o (re p o w) in absurd (omega arith);
    a_says_active = λ c m n w new l h. inv.a_says_active c m n w (omega arith) l h;
    a_says_over = λ c m n w new l. inv.a_says_over c m n w (omega arith) l;
    a_after_over = λ c m n w new l c' m' n' w' lt. inv.a_after_over c m n w (omega arith) l c' m' n' w' lt;
    a_says_backup = inv.a_says_backup;
  }

  pub reply_free_b : (vp vo : ℕ) (UB' : ℕ → ℕ → ℕ → Type 0) (RB' : ℕ → ℕ → Type 0) → RA vp vo → nb < vp → vo ≡ mb
      → 4 ≤ sb
      → ((c m n : ℕ) → UB' c m n → UB c m n) → ((p o : ℕ) → RB' p o → RB p o)
      → Phases sa ma na da 0 mb vp 9 UA UB' RA RB'
  reply_free_b vp vo UB' RB' v newer of least up re = let sv = inv.a.sent_r vp vo v in record {
    a = inv.a;
    b = own_settle _ _ _ _ _ _ _ inv.b _ _ _ _ _ newer (inl (refl, refl)) (λ e. omega arith) up re;
    count_a = inv.count_a;
    count_b = sv.0;
    heard = λ e is. refl;
    b_backup = λ is. absurd (omega arith);
    b_active = λ l h. absurd (omega arith);
    b_says_active = λ c m n w new l h. let s = inv.b.sent_u c m n (up c m n w) in absurd (omega arith);
    b_says_over = λ c m n w new l. let s = inv.b.sent_u c m n (up c m n w) in absurd (omega arith);
    b_silent = λ c m n w new z. let s = inv.b.sent_u c m n (up c m n w) in absurd (omega arith);
    b_reply_last = λ p o w is l. let h = inv.b.sent_r p o (re p o w) in absurd (omega arith);
    a_says_active = λ c m n w new l h. by_word (inv.a_says_active c m n w (omega arith) l h)
        (λ x. inl x) (λ y. by_word y (λ x. inr (inl x)) (λ x. let z =
        inv.a.reply_then_update c m n vp vo w v (omega arith) in absurd (omega arith)));
    a_says_over = λ c m n w new l. by_word (inv.a_says_over c m n w (omega arith) l)
        (λ x. inl x) (λ x. let z = inv.a.reply_then_update c m n vp vo w v (omega arith) in absurd (omega arith));
    a_after_over = λ c m n w new l c' m' n' w' lt. inv.a_after_over c m n w (omega arith) l c' m' n' w' lt;
    a_says_backup = inv.a_says_backup;
  }
