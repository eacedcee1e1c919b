-- The mark goes by the other server's reply. Where a change is due, the count rises by one, and the word of that change
-- is the only new one.
use Rattle.std.specs.Prelude.{◌≡◌, ◌≢◌, ℕ, ◌+◌, ◌<◌, ◌≤◌, ◌⊎◌}
use Rattle.std.proofs.Common.{arith, inl, inr, refl}
use Rattle.pair_world.specs.Acks.{Acks, OwnEnds, Stale}
use Rattle.pair_world.specs.Marked.{Marked}
use Rattle.pair_world.specs.Phases.{Due, DueAtB, Phases}
use Rattle.pair_world.proofs.Phases.{by_word, own_unmark}

abbrev pub Raised : (d m m' : ℕ) → Type 0
Raised d m m' = ((d ≡ 9) × (m' ≡ m)) ⊎ ((d ≢ 9) × (m' ≡ m + 1))

-- the code of the due word
abbrev pub Tells : (s d c : ℕ) → Type 0
Tells s d c = ((d ≡ 2) × (c ≡ s)) ⊎ ((d ≢ 2) × (c ≡ d))

-- a word is an old one, or the due one
abbrev pub OrDue : (ℕ → ℕ → ℕ → Type 0) → (d c0 m' vp c m n : ℕ) → Type 0
OrDue U d c0 m' vp c m n = U c m n ⊎ ((d ≢ 9) × (c ≡ c0) × (m ≡ m') × (n ≡ vp))

abbrev pub OrDueEnd : (ℕ → ℕ → Type 0) → (d m' e' m e : ℕ) → Type 0
OrDueEnd E d m' e' m e = E m e ⊎ ((d ≢ 9) × (m ≡ m') × (e ≡ e'))

-- the ends of X's unit as its mark goes
ends_unmark : (s m d k t e : ℕ) (U : ℕ → ℕ → ℕ → Type 0) (E : ℕ → ℕ → Type 0) (vp m' c0 : ℕ) (U' : ℕ → ℕ → ℕ
    → Type 0) (E' : ℕ → ℕ → Type 0) → m ≤ m'
    → ((c n l : ℕ) → U c n l → n < m) → ((n f : ℕ) → E n f → n < m) → (k ≡ 0) × (t ≡ 0) → (d ≡ 2 → (2 ≤ c0) × (c0 ≤ 3))
    → ((c n l : ℕ) → U' c n l → U c n l ⊎ ((c ≡ c0) × (n ≡ m') × (l ≡ vp)))
    → ((n f : ℕ) → E' n f → E n f ⊎ ((n ≡ m') × (f ≡ e)))
    → OwnEnds s m' d k t e U' E'
ends_unmark s m d k t e U E vp m' c0 U' E' more before before_end zeros active up en = record {
  no_ends = λ le. zeros;
  last_active = λ c n l w is two. by_word (up c n l w) (λ old. let h = before c n l old in
      absurd (omega arith)) (λ x. let a = active two in (omega arith, omega arith));
  last_end = λ n f w is two. by_word (en n f w) (λ old. let h = before_end n f old in absurd (omega arith)) (λ x. x.1);
  sent_e = λ n f w. by_word (en n f w) (λ old. let h = before_end n f old in omega arith) (λ x. omega arith);
}

module _ (sa ma na da ka ta ea sb mb nb db kb tb eb : ℕ) (UA UB : ℕ → ℕ → ℕ → Type 0) (EA EB RA RB : ℕ → ℕ
    → Type 0) (SA SB : ℕ → Type 0)
    (inv : Marked 0 Due DueAtB sa ma na da ka ta sb mb nb db kb tb eb UA UB EA EB RA RB SA SB)
    (vp vo m' c0 : ℕ) (UA' : ℕ → ℕ → ℕ → Type 0) (EA' RA' : ℕ → ℕ → Type 0) (SA' : ℕ → Type 0)
    (v : RB vp vo) (newer : na < vp) (of : vo ≡ ma) (raised : Raised da ma m') (tells : Tells sa da c0)
    (up : (c m n : ℕ) → UA' c m n → OrDue UA da c0 m' vp c m n) (en : (m e : ℕ) → EA' m e → OrDueEnd EA da m' ea m e)
    (re : (p o : ℕ) → RA' p o → RA p o) (se : (m : ℕ) → SA' m → SA m) where
  unmark_a_phases : Phases sa m' vp da sb mb nb db UA' UB RA' RB
  unmark_a_phases =
      let free : sb ≡ 0 = (inv.answered vp vo v of).0 in
      let last : vp ≡ mb = (inv.answered vp vo v of).1 refl in
      let due_a = inv.x.due in
      let due_b = inv.y.due in
      let sv = inv.y.sent_r vp vo v in
      let count = inv.count_y in
      let old_word : (c m n : ℕ) → UA c m n → nb < m → ⊥ = λ c m n w lt. let h = inv.before_x c m n w in
      absurd (omega arith) in
      let no_word_b : (c m n : ℕ) → UB c m n → vp < m → ⊥ = λ c m n w lt. let h = inv.y.sent_u c m n w in
      absurd (omega arith) in
      record {
        a = own_unmark _ _ _ _ _ _ _ inv.x _ _ c0 _ _ newer (omega arith) (λ e. omega arith) inv.before_x
            (λ c m n w. by_word (up c m n w) inl (λ f. inr (f.1, f.2, f.3))) re;
        b = inv.y;
        count_a = omega arith;
        count_b = omega arith;
        heard = λ e is. free;
        b_backup = λ is. absurd (omega arith);
        b_active = λ l h. absurd (omega arith);
        b_says_active = λ c m n w new l h. absurd (no_word_b c m n w new);
        b_says_over = λ c m n w new l. absurd (no_word_b c m n w new);
        b_silent = λ c m n w new z. absurd (no_word_b c m n w new);
        b_reply_last = λ p o w is l. let h = inv.y.sent_r p o w in absurd (omega arith);
        a_says_active = λ c m n w new l h. by_word (up c m n w) (λ old. absurd (old_word c m n old new))
            (λ x. inl (omega arith));
        a_says_over = λ c m n w new l. by_word (up c m n w) (λ old. absurd (old_word c m n old new))
            (λ x. inl (omega arith, omega arith));
        a_after_over = λ c m n w new l c' m'' n' w' lt. by_word (up c m n w) (λ old. absurd (old_word c m n old new))
            (λ x. by_word (up c' m'' n' w') (λ old. let h = inv.before_x c' m'' n' old in
            absurd (omega arith)) (λ y. absurd (omega arith)));
        a_says_backup = λ c m n w is e. by_word (up c m n w) (λ old. let h = inv.x.sent_u c m n old in
            absurd (omega arith)) (λ x. omega arith);
      }

  unmark_a_ends : Acks sa m' vp da ka ta ea sb mb nb db kb tb eb UA' UB EA' EB RA' RB
  unmark_a_ends =
      let free : sb ≡ 0 = (inv.answered vp vo v of).0 in
      let due_a = inv.x.due in
      let due_b = inv.y.due in
      let ends = inv.no_ends_x in
      let count = inv.count_y in record {
        a = ends_unmark sa ma da ka ta ea UA EA vp m' c0 UA' EA' (omega arith) inv.before_x inv.before_ex inv.no_ends_x
            (λ two. (omega arith, omega arith)) (λ c m n w. by_word (up c m n w) inl (λ f. inr (f.1, f.2, f.3)))
            (λ m e w. by_word (en m e w) inl (λ f. inr (f.1, f.2)));
        b = inv.ends_y;
        told_a = λ l h l'. absurd (omega arith);
        told_b = λ l h out. omega arith;
        acknowledged_a = λ p o w is two. absurd (omega arith);
        acknowledged_b = λ p o w is two. let h = inv.y.sent_r p o w in absurd (omega arith);
        new_active = λ l is l' h. ends.0;
      }

  pub unmark_a : Phases sa m' vp da sb mb nb db UA' UB RA' RB
      × Acks sa m' vp da ka ta ea sb mb nb db kb tb eb UA' UB EA' EB RA' RB × Stale vp nb SA' SB
  unmark_a = (
    unmark_a_phases,
    unmark_a_ends,
    record {
      stale_a = λ m w. let h = inv.sent_sx m (se m w) in let sv = inv.y.sent_r vp vo v in omega arith;
      stale_b = λ m w. let h = inv.sent_sy m w in omega arith;
    },
  )

module _ (sa ma na da ka ta ea sb mb nb db kb tb eb : ℕ) (UA UB : ℕ → ℕ → ℕ → Type 0) (EA EB RA RB : ℕ → ℕ
    → Type 0) (SA SB : ℕ → Type 0)
    (inv : Marked 1 DueAtB Due sb mb nb db kb tb sa ma na da ka ta ea UB UA EB EA RB RA SB SA)
    (vp vo m' c0 : ℕ) (UB' : ℕ → ℕ → ℕ → Type 0) (EB' RB' : ℕ → ℕ → Type 0) (SB' : ℕ → Type 0)
    (v : RA vp vo) (newer : nb < vp) (of : vo ≡ mb) (raised : Raised db mb m') (tells : Tells sb db c0)
    (up : (c m n : ℕ) → UB' c m n → OrDue UB db c0 m' vp c m n) (en : (m e : ℕ) → EB' m e → OrDueEnd EB db m' eb m e)
    (re : (p o : ℕ) → RB' p o → RB p o) (se : (m : ℕ) → SB' m → SB m) where
  unmark_b_phases : Phases sa ma na da sb m' vp db UA UB' RA RB'
  unmark_b_phases =
      let one : sa ≡ 1 = (inv.answered vp vo v of).0 in
      let due_b = inv.x.due in
      let due_a = inv.y.due in
      let sv = inv.y.sent_r vp vo v in
      let count = inv.count_y in
      let old_word : (c m n : ℕ) → UB c m n → na < m → ⊥ = λ c m n w lt. let h = inv.before_x c m n w in
      absurd (omega arith) in
      record {
        a = inv.y;
        b = own_unmark _ _ _ _ _ _ _ inv.x _ _ c0 _ _ newer (omega arith) (λ e. omega arith) inv.before_x
            (λ c m n w. by_word (up c m n w) inl (λ f. inr (f.1, f.2, f.3))) re;
        count_a = omega arith;
        count_b = omega arith;
        heard = λ e is. let h = inv.y.replies_before e vp vo v in absurd (omega arith);
        b_backup = λ is. one;
        b_active = λ l h. inl one;
        b_says_active = λ c m n w new l h. by_word (up c m n w) (λ old. absurd (old_word c m n old new))
            (λ x. inl (omega arith));
        b_says_over = λ c m n w new l. by_word (up c m n w) (λ old. absurd (old_word c m n old new))
            (λ x. inl (omega arith, omega arith));
        b_silent = λ c m n w new z. by_word (up c m n w) (λ old. absurd (old_word c m n old new))
            (λ x. absurd (omega arith));
        b_reply_last = λ p o w is l. absurd (omega arith);
        a_says_active = λ c m n w new l h. let z = inv.free_after vp vo v of c m n w new in absurd (omega arith);
        a_says_over = λ c m n w new l. let z = inv.free_after vp vo v of c m n w new in absurd (omega arith);
        a_after_over = λ c m n w new l c' m'' n' w' lt. let z = inv.free_after vp vo v of c m n w new in
            absurd (omega arith);
        a_says_backup = λ c m n w is e. one;
      }

  unmark_b_ends : Acks sa ma na da ka ta ea sb m' vp db kb tb eb UA UB' EA EB' RA RB'
  unmark_b_ends =
      let one : sa ≡ 1 = (inv.answered vp vo v of).0 in
      let due_b = inv.x.due in
      let due_a = inv.y.due in
      let ends = inv.no_ends_x in
      let count = inv.count_x in record {
        a = inv.ends_y;
        b = ends_unmark sb mb db kb tb eb UB EB vp m' c0 UB' EB' (omega arith) inv.before_x inv.before_ex inv.no_ends_x
            (λ two. (omega arith, omega arith)) (λ c m n w. by_word (up c m n w) inl (λ f. inr (f.1, f.2, f.3)))
            (λ m e w. by_word (en m e w) inl (λ f. inr (f.1, f.2)));
        told_a = λ l h l'. omega arith;
        told_b = λ l h out. absurd (omega arith);
        acknowledged_a = λ p o w is two. let h = inv.y.sent_r p o w in absurd (omega arith);
        acknowledged_b = λ p o w is two. absurd (omega arith);
        new_active = λ l is l' h. absurd (omega arith);
      }

  pub unmark_b : Phases sa ma na da sb m' vp db UA UB' RA RB'
      × Acks sa ma na da ka ta ea sb m' vp db kb tb eb UA UB' EA EB' RA RB' × Stale na vp SA SB'
  unmark_b = (
    unmark_b_phases,
    unmark_b_ends,
    record {
      stale_a = λ m w. let h = inv.sent_sy m w in omega arith;
      stale_b = λ m w. let h = inv.sent_sx m (se m w) in let sv = inv.y.sent_r vp vo v in omega arith;
    },
  )
