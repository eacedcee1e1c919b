-- What is kept while the unit is marked at a server X, in the plain numbers of Phases and Acks; Y is the other.
use Rattle.std.specs.Prelude.{◌≡◌, ℕ, ◌<◌, ◌≤◌}
use Rattle.pair_world.specs.Acks.{OwnEnds}
use Rattle.pair_world.specs.Phases.{Own}

-- S m: an update says that the unit was seized, with count m. f is what Y's unit is once it took that: 0 free, 1 free
-- backup. DX and DY say which change may be due.
pub record Marked (f : ℕ) (DX DY : ℕ → ℕ → Type 0) (sx mx nx dx kx tx sy my ny dy ky ty ey : ℕ)
    (UX UY : ℕ → ℕ → ℕ → Type 0) (EX EY RX RY : ℕ → ℕ → Type 0) (SX SY : ℕ → Type 0) : Type 0 where
  -- what each of the two keeps by itself
  pub x : Own DX sx mx nx dx UX RX
  pub y : Own DY sy my ny dy UY RY
  -- what X said of the unit but the mark is from before its last change
  pub before_x : (c m n : ℕ) → UX c m n → m < mx
  pub before_ex : (m e : ℕ) → EX m e → m < mx
  -- the marks that X said have counts no greater than its unit's, and those that Y said were seen by X
  pub sent_sx : (m : ℕ) → SX m → m ≤ mx
  pub sent_sy : (m : ℕ) → SY m → m ≤ nx
  -- neither saw more than the other counted
  pub count_x : nx ≤ my
  pub count_y : ny ≤ mx
  -- X was told nothing and has nothing acknowledged
  pub no_ends_x : (kx ≡ 0) × (tx ≡ 0)
  -- Y's ends are as ever
  pub ends_y : OwnEnds sy my dy ky ty ey UY EY
  -- once Y accepted the mark, its unit is as the mark wants it, and what it says later is that it is free
  pub answered : (p o : ℕ) → RY p o → o ≡ mx → (sy ≡ f) × (f ≡ 0 → p ≡ my)
  pub free_after : (p o : ℕ) → RY p o → o ≡ mx → (c m n : ℕ) → UY c m n → p < m → c ≡ 0
