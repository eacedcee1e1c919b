-- A mark is set, at either server: X is the one, Y the other.
use Rattle.std.specs.Prelude.{◌≡◌, ℕ, ◌+◌, ◌≤◌, ◌⊎◌}
use Rattle.std.proofs.Common.{arith, inl, refl}
use Rattle.pair_world.specs.Acks.{OwnEnds}
use Rattle.pair_world.specs.Marked.{Marked}
use Rattle.pair_world.specs.Phases.{Own}
use Rattle.pair_world.proofs.Phases.{by_word, own_change}

module _ (DX DY : ℕ → ℕ → Type 0) (sx mx nx dx kx tx ex sy my ny dy ky ty ey : ℕ) (UX UY : ℕ → ℕ → ℕ
    → Type 0) (EX EY RX RY : ℕ → ℕ → Type 0) (SX SY : ℕ → Type 0)
    (x : Own DX sx mx nx dx UX RX) (y : Own DY sy my ny dy UY RY) (ends_x : OwnEnds sx mx dx kx tx ex UX EX)
    (ends_y : OwnEnds sy my dy ky ty ey UY EY)
    (count_x : nx ≤ my) (count_y : ny ≤ mx) (stale_x : (m : ℕ) → SX m → m ≤ ny) (stale_y : (m : ℕ) → SY m
    → m ≤ nx) where
  -- no reply is to a change that is only now made
  fresh_y : {G : Type 0} (p o : ℕ) → RY p o → o ≡ mx + 1 → G
  fresh_y p o w is = let h = y.sent_r p o w in absurd (omega arith)

  -- the unit is X's to give then; what it is once Y took the mark is f
  pub seize : (f s' : ℕ) (UX' : ℕ → ℕ → ℕ → Type 0) (EX' RX' : ℕ → ℕ → Type 0) (SX' : ℕ → Type 0) → DX s' 9
      → ((c m n : ℕ) → UX' c m n → UX c m n) → ((m e : ℕ) → EX' m e → EX m e) → ((p o : ℕ) → RX' p o → RX p o)
      → ((m : ℕ) → SX' m → SX m ⊎ (m ≡ mx + 1))
      → Marked f DX DY s' (mx + 1) nx 9 0 0 sy my ny dy ky ty ey UX' UY EX' EY RX' RY SX' SY
  seize f s' UX' EX' RX' SX' due up en re se = record {
    x = own_change _ _ _ _ _ _ _ x _ _ 9 _ _ due (λ e. refl) (λ c m n w. inl (up c m n w)) re;
    y = y;
    before_x = λ c m n w. let h = x.sent_u c m n (up c m n w) in omega arith;
    before_ex = λ m e w. let h = ends_x.sent_e m e (en m e w) in omega arith;
    sent_sx = λ m w. by_word (se m w) (λ old. let h = stale_x m old in omega arith) (λ e. omega arith);
    sent_sy = stale_y;
    count_x = count_x;
    count_y = omega arith;
    no_ends_x = (refl, refl);
    ends_y = ends_y;
    answered = λ p o w is. fresh_y p o w is;
    free_after = λ p o w is. fresh_y p o w is;
  }
