-- Each kind of step keeps what is kept while the unit is marked.
use Rattle.std.specs.Prelude.{◌≡◌, ◌≢◌, ℕ, ◌+◌, ◌<◌, ◌≤◌, ◌⊎◌}
use Rattle.std.proofs.Common.{arith, inl, refl}
use Rattle.pair_world.specs.Marked.{Marked}
use Rattle.pair_world.specs.Phases.{Ending}
use Rattle.pair_world.proofs.Acks.{ends_active, ends_change, own_fewer_ends}
use Rattle.pair_world.proofs.Phases.{Old, OldReply, by_word, own_change, own_take, own_settle, own_fewer}

module _ (f : ℕ) (DX DY : ℕ → ℕ → Type 0) (sx mx nx dx kx tx sy my ny dy ky ty ey : ℕ)
    (UX UY : ℕ → ℕ → ℕ → Type 0) (EX EY RX RY : ℕ → ℕ → Type 0) (SX SY : ℕ → Type 0)
    (inv : Marked f DX DY sx mx nx dx kx tx sy my ny dy ky ty ey UX UY EX EY RX RY SX SY) where
  -- no reply is to a change that is only now made
  fresh_y : {G : Type 0} (p o : ℕ) → RY p o → o ≡ mx + 1 → G
  fresh_y p o w is = let h = inv.y.sent_r p o w in let k = inv.count_y in absurd (omega arith)

  -- where Y answered the mark, nothing of X is new
  pub nothing_new : {G : Type 0} (p o m : ℕ) → RY p o → o ≡ mx → m ≤ mx → ny < m → G
  nothing_new p o m w is le newer = let h = inv.y.sent_r p o w in absurd (omega arith)

  -- any change of X's unit: while it is marked it says nothing but its mark
  pub change_x : (s' d' k' t' : ℕ) (UX' : ℕ → ℕ → ℕ → Type 0) (EX' RX' : ℕ → ℕ → Type 0) (SX' : ℕ → Type 0) → DX s' d'
      → (k' ≡ 0) × (t' ≡ 0)
      → ((c m n : ℕ) → UX' c m n → UX c m n) → ((m e : ℕ) → EX' m e → EX m e) → ((p o : ℕ) → RX' p o → RX p o)
      → ((m : ℕ) → SX' m → SX m ⊎ (m ≡ mx + 1))
      → Marked f DX DY s' (mx + 1) nx d' k' t' sy my ny dy ky ty ey UX' UY EX' EY RX' RY SX' SY
  change_x s' d' k' t' UX' EX' RX' SX' due zeros up en re se = record {
    ends_y = inv.ends_y;
    x = own_change _ _ _ _ _ _ _ inv.x _ _ _ _ _ due (λ e. refl) (λ c m n w. inl (up c m n w)) re;
    y = inv.y;
    before_x = λ c m n w. let h = inv.before_x c m n (up c m n w) in omega arith;
    sent_sx = λ m w. by_word (se m w) (λ old. let h = inv.sent_sx m old in omega arith) (λ e. omega arith);
    before_ex = λ m e w. let h = inv.before_ex m e (en m e w) in omega arith;
    sent_sy = inv.sent_sy;
    count_x = inv.count_x;
    count_y = let h = inv.count_y in omega arith;
    no_ends_x = zeros;
    answered = λ p o w is. fresh_y p o w is;
    free_after = λ p o w is. fresh_y p o w is;
  }

  -- a change of Y's own: once it answered the mark, it can but ask for the unit
  pub change_y : (s' d' c0 : ℕ) (UY' : ℕ → ℕ → ℕ → Type 0) (EY' RY' : ℕ → ℕ → Type 0) (SY' : ℕ → Type 0) → DY s' d'
      → d' ≢ 2 → (Ending s' d' → c0 ≡ d') → (s' ≤ 1 → sy ≤ 1)
      → (sy ≢ f) ⊎ ((s' ≡ sy) × (c0 ≡ 0) × (f ≢ 0))
      → ((c m n : ℕ) → UY' c m n → Old UY c m n c0 (my + 1) ny) → ((m e : ℕ) → EY' m e → EY m e)
      → ((p o : ℕ) → RY' p o → RY p o) → ((m : ℕ) → SY' m → SY m)
      → Marked f DX DY sx mx nx dx kx tx s' (my + 1) ny d' ky ty ey UX UY' EX EY' RX RY' SX SY'
  change_y s' d' c0 UY' EY' RY' SY' due not_active last low guard up en re se = record {
    ends_y = ends_change _ _ _ _ _ _ _ _ inv.ends_y _ _ _ _ _ _ _ _ (omega arith) not_active
        (λ le. inv.ends_y.no_ends (low le)) en;
    x = inv.x;
    y = own_change _ _ _ _ _ _ _ inv.y _ _ _ _ _ due last up re;
    before_x = inv.before_x;
    sent_sx = inv.sent_sx;
    before_ex = inv.before_ex;
    sent_sy = λ m w. inv.sent_sy m (se m w);
    count_x = let h = inv.count_x in omega arith;
    count_y = inv.count_y;
    no_ends_x = inv.no_ends_x;
    answered = λ p o w is. let x = inv.answered p o (re p o w) is in
        by_word guard (λ ne. absurd (ne x.0)) (λ g. let a = g.0 in let b = x.0 in (omega arith, λ z. absurd (g.2 z)));
    free_after = λ p o w is c m n v lt. by_word (up c m n v)
        (λ old. inv.free_after p o (re p o w) is c m n old lt)
        (λ z. by_word guard (λ ne. absurd (ne (inv.answered p o (re p o w) is).0)) (λ g. let a = g.1 in let b = z.0 in
        omega arith));
  }

  -- Y takes an update of X's, from before the mark
  pub take_y : (cv mv nv s' d' c0 k' t' e' : ℕ) (UY' : ℕ → ℕ → ℕ → Type 0) (EY' RY' : ℕ → ℕ → Type 0) (SY' : ℕ
      → Type 0) → UX cv mv nv → ny < mv
      → DY s' d' → s' ≤ 3 → d' ≢ 0 → (d' ≡ 2 → (2 ≤ c0) × (c0 ≤ 3)) → (s' ≤ 1 → (k' ≡ 0) × (t' ≡ 0))
      → ((c m n : ℕ) → UY' c m n → Old UY c m n c0 (my + 1) mv) → ((m e : ℕ) → EY' m e → OldReply EY m e (my + 1) e')
      → ((p o : ℕ) → RY' p o → OldReply RY p o (my + 1) mv) → ((m : ℕ) → SY' m → SY m)
      → Marked f DX DY sx mx nx dx kx tx s' (my + 1) mv d' k' t' e' UX UY' EX EY' RX RY' SX SY'
  take_y cv mv nv s' d' c0 k' t' e' UY' EY' RY' SY' v newer due high not_free active ends up en re se = let before =
      inv.before_x cv mv nv v in let sv = inv.x.sent_u cv mv nv v in
      let none_answered : (p o : ℕ) → RY' p o → o ≡ mx → ⊥ =
      λ p o w is. by_word (re p o w) (λ old. nothing_new p o mv old is (omega arith) newer)
      (λ x. absurd (omega arith)) in
      let no_end : Ending s' d' → ⊥ = λ e. by_word e (λ l. absurd (omega arith)) (λ z. not_free z) in record {
        ends_y = ends_active _ _ _ _ _ _ _ _ inv.ends_y _ _ _ _ _ _ _ _ _
            (λ c m n w. (inv.y.sent_u c m n w).0) active ends up en;
        x = inv.x;
        y = own_take _ _ _ _ _ _ _ inv.y _ _ _ _ _ _ newer due no_end up re;
        before_x = inv.before_x;
        sent_sx = inv.sent_sx;
        before_ex = inv.before_ex;
        sent_sy = λ m w. inv.sent_sy m (se m w);
        count_x = let h = inv.count_x in omega arith;
        count_y = omega arith;
        no_ends_x = inv.no_ends_x;
        answered = λ p o w is. absurd (none_answered p o w is);
        free_after = λ p o w is. absurd (none_answered p o w is);
      }

  -- Y takes the mark
  pub take_mark_y : (mv s' : ℕ) (UY' : ℕ → ℕ → ℕ → Type 0) (EY' RY' : ℕ → ℕ → Type 0) (SY' : ℕ → Type 0) → SX mv
      → ny < mv → f ≤ 1 → s' ≡ f → DY s' 9
      → ((c m n : ℕ) → UY' c m n → UY c m n) → ((m e : ℕ) → EY' m e → EY m e)
      → ((p o : ℕ) → RY' p o → OldReply RY p o (my + 1) mv) → ((m : ℕ) → SY' m → SY m)
      → Marked f DX DY sx mx nx dx kx tx s' (my + 1) mv 9 0 0 0 UX UY' EX EY' RX RY' SX SY'
  take_mark_y mv s' UY' EY' RY' SY' v newer low left due up en re se = let sv = inv.sent_sx mv v in record {
    ends_y = ends_change _ _ _ _ _ _ _ _ inv.ends_y _ _ _ _ _ _ _ _ (omega arith) (λ two. omega arith)
        (λ le. (refl, refl)) en;
    x = inv.x;
    y = own_take _ _ _ _ _ _ _ inv.y _ _ _ 0 _ _ newer due (λ e. omega arith) (λ c m n w. inl (up c m n w)) re;
    before_x = inv.before_x;
    sent_sx = inv.sent_sx;
    before_ex = inv.before_ex;
    sent_sy = λ m w. inv.sent_sy m (se m w);
    count_x = let h = inv.count_x in omega arith;
    count_y = sv;
    no_ends_x = inv.no_ends_x;
    answered = λ p o w is. by_word (re p o w) (λ old. nothing_new p o mv old is sv newer) (λ x. (left, λ z. x.0));
    free_after = λ p o w is c m n u lt. by_word (re p o w) (λ old. nothing_new p o mv old is sv newer) (λ x. let h =
        inv.y.sent_u c m n (up c m n u) in absurd (omega arith));
  }

  -- Y takes a reply
  pub settle_y : (vp vo s' k' t' e' : ℕ) (UY' : ℕ → ℕ → ℕ → Type 0) (EY' RY' : ℕ → ℕ → Type 0) (SY' : ℕ → Type 0)
      → RX vp vo → ny < vp → DY s' 9 → s' ≤ 3 → (s' ≤ 1 → (k' ≡ 0) × (t' ≡ 0))
      → ((c m n : ℕ) → UY' c m n → UY c m n) → ((m e : ℕ) → EY' m e → EY m e) → ((p o : ℕ) → RY' p o → RY p o)
      → ((m : ℕ) → SY' m → SY m)
      → Marked f DX DY sx mx nx dx kx tx s' my vp 9 k' t' e' UX UY' EX EY' RX RY' SX SY'
  settle_y vp vo s' k' t' e' UY' EY' RY' SY' v newer due high ends up en re se = let sv = inv.x.sent_r vp vo v in
      record {
        ends_y = ends_change _ _ _ _ _ _ _ _ inv.ends_y _ _ _ _ _ _ _ _ (omega arith) (λ two. omega arith) ends en;
        x = inv.x;
        y = own_settle _ _ _ _ _ _ _ inv.y _ _ _ _ _ newer due (λ e. omega arith) up re;
        before_x = inv.before_x;
        sent_sx = inv.sent_sx;
        before_ex = inv.before_ex;
        sent_sy = λ m w. inv.sent_sy m (se m w);
        count_x = inv.count_x;
        count_y = sv.0;
        no_ends_x = inv.no_ends_x;
        answered = λ p o w is. nothing_new p o vp (re p o w) is sv.0 newer;
        free_after = λ p o w is. nothing_new p o vp (re p o w) is sv.0 newer;
      }

  -- fewer words: rejects and sends
  pub fewer_marked : (UX' UY' : ℕ → ℕ → ℕ → Type 0) (EX' EY' RX' RY' : ℕ → ℕ → Type 0) (SX' SY' : ℕ → Type 0)
      → ((c m n : ℕ) → UX' c m n → UX c m n) → ((c m n : ℕ) → UY' c m n → UY c m n) → ((m e : ℕ) → EX' m e → EX m e)
      → ((m e : ℕ) → EY' m e → EY m e)
      → ((p o : ℕ) → RX' p o → RX p o) → ((p o : ℕ) → RY' p o → RY p o) → ((m : ℕ) → SX' m → SX m)
      → ((m : ℕ) → SY' m → SY m)
      → Marked f DX DY sx mx nx dx kx tx sy my ny dy ky ty ey UX' UY' EX' EY' RX' RY' SX' SY'
  fewer_marked UX' UY' EX' EY' RX' RY' SX' SY' ux uy ex ey rx ry sx' sy' = record {
    ends_y = own_fewer_ends _ _ _ _ _ _ _ _ inv.ends_y _ _ uy ey;
    x = own_fewer _ _ _ _ _ _ _ inv.x _ _ ux rx;
    y = own_fewer _ _ _ _ _ _ _ inv.y _ _ uy ry;
    before_x = λ c m n w. inv.before_x c m n (ux c m n w);
    sent_sx = λ m w. inv.sent_sx m (sx' m w);
    before_ex = λ m e w. inv.before_ex m e (ex m e w);
    sent_sy = λ m w. inv.sent_sy m (sy' m w);
    count_x = inv.count_x;
    count_y = inv.count_y;
    no_ends_x = inv.no_ends_x;
    answered = λ p o w. inv.answered p o (ry p o w);
    free_after = λ p o w is c m n v. inv.free_after p o (ry p o w) is c m n (uy c m n v);
  }
